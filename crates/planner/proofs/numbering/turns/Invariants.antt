-- `turns` stores one turn in each round; those of the packets before p stand in front.
use mathlib.Core.Path.{◌≡◌}
use mathlib.Core.List.{List}
use Prim.Native.Nat.{ℕ, ◌<◌}
use lib.ListN.{length, get_or}
use Rattle.arrays.specs.Arrays.{packet_in}
use Rattle.arrays.specs.declared.build.Flows.{Flows}
use Rattle.arrays.specs.declared.build.Packets.{Packets}
use Rattle.planner.proofs.numbering.turns.Given as goal

-- the places lent to the loop hold the turns of the packets before p
pub record Filled (flows : Flows) (packets : Packets) (items : List ℕ) (p : ℕ) : Type 0 where
  pub front : (k : ℕ) → k < p → get_or items k 0 ≡ (packet_in flows packets k).turn
  pub size : length items ≡ packets.count

abbrev pub invariant-loop-p : goal.invariant-loop-p
invariant-loop-p l = Filled l.model.flows l.model.packets l.turn-items l.p
