-- `lines::flows::read_flows` meets its contract: between two lines the loop knows `Flowing`, and each way out is a law of it.
use Prim.Native.Nat.{◌-◌}
use lib.ListN.{length}
use Rattle.lines.proofs.FlowLines.{Flowing}
use Rattle.lines.proofs.flows.read_flows.Given as goal

abbrev pub invariant-loop-at : goal.invariant-loop-at
invariant-loop-at l = Flowing l.text l.from l.at l.lines

abbrev pub decreases-loop-at : goal.decreases-loop-at
decreases-loop-at l = length l.text - l.at
