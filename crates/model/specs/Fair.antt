-- What the tests leave: numbers in their ranges, named part by part.
use Rattle.std.specs.Prelude.{◌≡◌, List, ℕ, ◌+◌, ◌*◌, ◌≤◌, ◌<◌, length}
use Rattle.hyperperiod.specs.Hyper.{most}
use Rattle.model.specs.Flows.{per_flow, source_of, target_of, period_of, size_of, due_of, flows_in, occupancy_in}
use Rattle.model.specs.Packets.{hyper_in, packets_in}
use Rattle.model.specs.declared.flows.Mesh.{Mesh}

-- past 2: mesh numbers in their ranges
pub record FairMesh (mesh : Mesh) : Type 0 where
  pub columns_low : 0 < mesh.columns
  pub columns_high : mesh.columns ≤ 16
  pub rows_low : 0 < mesh.rows
  pub rows_high : mesh.rows ≤ 16
  pub r_low : 0 < mesh.r
  pub r_high : mesh.r ≤ 64
  pub flit_low : 0 < mesh.flit
  pub flit_high : mesh.flit ≤ 64

-- past 4: whole flows, 1 to 64 of them
pub record FairList (numbers : List ℕ) : Type 0 where
  pub whole : length numbers ≡ per_flow * flows_in numbers
  pub flows_low : 0 < flows_in numbers
  pub flows_high : flows_in numbers ≤ 64

-- past 5: source and target are two nodes
pub record FairNodes (mesh : Mesh) (numbers : List ℕ) (f : ℕ) : Type 0 where
  pub source_in : source_of numbers f < mesh.columns * mesh.rows
  pub target_in : target_of numbers f < mesh.columns * mesh.rows
  pub apart : source_of numbers f ≡ target_of numbers f → ⊥

-- past 6: period, size and deadline in their ranges
pub record FairTimes (numbers : List ℕ) (f : ℕ) : Type 0 where
  pub period_low : 0 < period_of numbers f
  pub period_high : period_of numbers f ≤ most
  pub size_low : 0 < size_of numbers f
  pub size_high : size_of numbers f ≤ 65536
  pub due_low : 0 < due_of numbers f
  pub due_high : due_of numbers f ≤ period_of numbers f

-- what the tests of flow f ask: 2 passed, and the flow in the list
pub record Listed (mesh : Mesh) (numbers : List ℕ) (f : ℕ) : Type 0 where
  pub fair_mesh : FairMesh mesh
  pub few : f < 64
  pub listed : per_flow * f + per_flow ≤ length numbers

-- what the hyper-period asks: 4 passed, and every flow past 6
pub record Timed (numbers : List ℕ) : Type 0 where
  pub list : FairList numbers
  pub times : (f : ℕ) → f < flows_in numbers → FairTimes numbers f

-- what the occupancy of flow f asks: 2, 5 and 6 passed, and the flow in the list
pub record Sized (mesh : Mesh) (numbers : List ℕ) (f : ℕ) : Type 0 where
  pub fair_mesh : FairMesh mesh
  pub nodes : FairNodes mesh numbers f
  pub times : FairTimes numbers f
  pub listed : per_flow * f + per_flow ≤ length numbers

-- past 7: a flow that passes every test of its own
pub record FairFlow (mesh : Mesh) (numbers : List ℕ) (f : ℕ) : Type 0 where
  pub nodes : FairNodes mesh numbers f
  pub times : FairTimes numbers f
  pub fits : occupancy_in mesh numbers f ≤ due_of numbers f

-- past 9: a model that is not refused
pub record Fair (mesh : Mesh) (numbers : List ℕ) : Type 0 where
  pub fair_mesh : FairMesh mesh
  pub list : FairList numbers
  pub flows : (f : ℕ) → f < flows_in numbers → FairFlow mesh numbers f
  pub hyper_high : hyper_in numbers ≤ most
  pub packets_high : packets_in numbers ≤ 1024
