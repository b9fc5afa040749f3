-- The walk over pairs, of the packets that stand in the arrays of a model.
use Rattle.std.specs.Prelude.{◌≡◌, Option, Bool, false, List, ℕ, ◌<◌, ltb}
use Rattle.std.specs.Option.{option_map}
use Rattle.basics.specs.Choose.{both}
use Rattle.basics.specs.First.{first, some, found}
use Rattle.packet.specs.Packet.{collide}
use Rattle.packet.specs.Table.{time_at}
use Rattle.arrays.specs.Arrays.{packet_in}
use Rattle.arrays.specs.declared.build.Flows.{Flows}
use Rattle.arrays.specs.declared.build.Packets.{Packets}
use Rattle.ranges.specs.Ranges.{strays, Scan}
use Rattle.pairs.specs.declared.scan.Pair.{Pair}

-- packet a of the arrays collides with the higher-numbered packet b
unfoldable pub meets_in : Flows → Packets → List ℕ → ℕ → ℕ → Bool
meets_in flows packets table a b = both (ltb a b) (collide (packet_in flows packets a) (time_at table a) (packet_in flows packets b) (time_at table b))

-- packet a of the arrays collides with a higher-numbered one
unfoldable pub higher_in : Flows → Packets → List ℕ → ℕ → Bool
higher_in flows packets table a = some (meets_in flows packets table a) packets.count

-- the lowest packet that collides with a higher-numbered one, and the lowest such, or none
unfoldable pub first_pair : Flows → Packets → List ℕ → Option Pair
first_pair flows packets table =
    option_map (λ a. record { a = a; b = first (meets_in flows packets table a) packets.count }) (found (higher_in flows packets table) packets.count)

-- what the walk over pairs asks besides: every time is known to be in range before anything is added to it
pub record Timely (flows : Flows) (packets : Packets) (table : List ℕ) : Type 0 where
  pub scan : Scan flows packets table
  pub in_range : (p : ℕ) → p < packets.count → strays flows packets table p ≡ false
