-- `pass` steps through its list; it is broken off, or runs to the end (proofs/Running.antt).
use Rattle.passes.specs.Stand.{stand_of}
use Rattle.passes.proofs.Running.{Running}
use Rattle.passes.proofs.walk.pass.Given as goal

abbrev pub invariant-loop-at : goal.invariant-loop-at
invariant-loop-at l = Running l.traffic l.settings.pruning l.settings.threshold l.initial.state l.marks (stand_of l.state l.taken l.at l.tries)
