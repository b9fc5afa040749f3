-- Mesh numbers, and flows as one list of numbers, so many to a flow.
use Rattle.std.specs.Prelude.{List, ℕ, ◌+◌, ◌*◌, ◌/◌, length, get_or}
use Rattle.mesh.specs.Node.{distance_of}
use Rattle.routes.specs.Route.{route_of}
use Rattle.time.specs.Units.{flits_of, occupancy_of}
use Rattle.model.specs.declared.flows.Flow.{Flow}
use Rattle.model.specs.declared.flows.Mesh.{Mesh}

-- a flow is five numbers
abbrev pub per_flow : ℕ
per_flow = 5

-- number i of flow f
unfoldable pub number_of : ℕ → List ℕ → ℕ → ℕ
number_of i numbers f = get_or numbers (per_flow * f + i) 0

-- a flow's source
unfoldable pub source_of : List ℕ → ℕ → ℕ
source_of numbers f = number_of 0 numbers f

-- a flow's target
unfoldable pub target_of : List ℕ → ℕ → ℕ
target_of numbers f = number_of 1 numbers f

-- a flow's period T
unfoldable pub period_of : List ℕ → ℕ → ℕ
period_of numbers f = number_of 2 numbers f

-- a flow's size in bytes
unfoldable pub size_of : List ℕ → ℕ → ℕ
size_of numbers f = number_of 3 numbers f

-- a flow's deadline D
unfoldable pub due_of : List ℕ → ℕ → ℕ
due_of numbers f = number_of 4 numbers f

-- flow f of the list: its five numbers by name
unfoldable pub flow_of : List ℕ → ℕ → Flow
flow_of numbers f = record {
  source = source_of numbers f;
  target = target_of numbers f;
  period = period_of numbers f;
  size = size_of numbers f;
  due = due_of numbers f;
}

-- how many flows the list holds; they are numbered from 0 in the order given
unfoldable pub flows_in : List ℕ → ℕ
flows_in numbers = length numbers / per_flow

-- the path of flow f's packets
unfoldable pub links_of_flow : Mesh → List ℕ → ℕ → List ℕ
links_of_flow mesh numbers f = route_of mesh.columns (source_of numbers f) (target_of numbers f)

-- the occupancy of flow f's packets
unfoldable pub occupancy_in : Mesh → List ℕ → ℕ → ℕ
occupancy_in mesh numbers f =
    (occupancy_of (record { 0 = mesh.r }) (distance_of mesh.columns (source_of numbers f) (target_of numbers f))
    (flits_of (record { 0 = size_of numbers f }) (record { 0 = mesh.flit }))).0
