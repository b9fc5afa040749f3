-- The packets of one hyper-period.
use Rattle.std.specs.Prelude.{List, [], ◌++◌, ℕ, zero, suc, ◌+◌, ◌*◌}
use Rattle.basics.specs.Lists.{tabulate}
use Rattle.basics.specs.Sums.{sum_of}
use Rattle.time.specs.Units.{turns_of}
use Rattle.hyperperiod.specs.Hyper.{hyper_of}
use Rattle.packet.specs.Packet.{Packet}
use Rattle.model.specs.Flows.{period_of, due_of, flows_in, links_of_flow, occupancy_in}
use Rattle.model.specs.declared.flows.Mesh.{Mesh}

-- all periods, flow after flow
unfoldable pub periods_of : List ℕ → List ℕ
periods_of numbers = tabulate (period_of numbers) 0 (flows_in numbers)

-- the hyper-period H is the least common multiple of all periods
unfoldable pub hyper_in : List ℕ → ℕ
hyper_in numbers = hyper_of (periods_of numbers)

-- flow f has H div T packets
unfoldable pub turns_in : List ℕ → ℕ → ℕ
turns_in numbers f = turns_of (hyper_in numbers) (period_of numbers f)

-- how many packets there are
unfoldable pub packets_in : List ℕ → ℕ
packets_in numbers = sum_of (turns_in numbers) (flows_in numbers)

-- packet k of flow f is released at k × T with deadline k × T + D
unfoldable pub packet_of : Mesh → List ℕ → ℕ → ℕ → Packet
packet_of mesh numbers f k = record {
  flow = f;
  turn = k;
  release = k * period_of numbers f;
  deadline = k * period_of numbers f + due_of numbers f;
  occupancy = occupancy_in mesh numbers f;
  path = links_of_flow mesh numbers f;
}

-- the packets of n flows from flow f on: flow after flow, k rising within a flow
unfoldable pub packets_from : Mesh → List ℕ → ℕ → ℕ → List Packet
packets_from mesh numbers f zero = []
packets_from mesh numbers f (suc n) = tabulate (packet_of mesh numbers f) 0 (turns_in numbers f) ++ packets_from mesh numbers (suc f) n

-- all packets of one hyper-period, numbered from 0
unfoldable pub packets_of : Mesh → List ℕ → List Packet
packets_of mesh numbers = packets_from mesh numbers 0 (flows_in numbers)
