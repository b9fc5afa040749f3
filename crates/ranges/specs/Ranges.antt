-- The walk over the packets that stand in the arrays of a model.
use Rattle.std.specs.Prelude.{Bool, not, List, ℕ, ◌≤◌, length}
use Rattle.packet.specs.Packet.{may_start}
use Rattle.packet.specs.Table.{time_at}
use Rattle.arrays.specs.Arrays.{packet_in, InBounds}
use Rattle.arrays.specs.declared.build.Flows.{Flows}
use Rattle.arrays.specs.declared.build.Packets.{Packets}

-- packet p of the arrays may not start at its time
unfoldable pub strays : Flows → Packets → List ℕ → ℕ → Bool
strays flows packets table p = not (may_start (packet_in flows packets p) (time_at table p))

-- what the walks ask: a model that the code can hold, and a table as long as its packets
pub record Scan (flows : Flows) (packets : Packets) (table : List ℕ) : Type 0 where
  pub ready : InBounds flows packets
  pub long : packets.count ≤ length table
