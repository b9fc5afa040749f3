-- `rounds` takes one pass in each turn; fewer were begun than the ceiling (proofs/Searching.antt).
use Prim.Native.Nat.{◌+◌, ◌-◌, ◌*◌}
use Rattle.passes.proofs.Searching.{Searching}
use Rattle.passes.proofs.repeat.rounds.Given as goal

abbrev pub invariant-loop-times : goal.invariant-loop-times
invariant-loop-times l = Searching l.traffic l.settings.pruning l.settings.threshold l.initial.state.order l.state l.passes l.tries

abbrev pub decreases-loop-times : goal.decreases-loop-times
decreases-loop-times l = l.traffic.count * (l.settings.threshold - 1) + 1 - l.passes
