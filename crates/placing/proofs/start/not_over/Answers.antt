-- `not_over` finds the first that starts after the time less the longest occupancy; before it all are over.
use Rattle.placing.proofs.Asking.{earlier, early_over}
use Rattle.placing.proofs.start.not_over.Goals as goal

pub returns-in-Some : goal.returns-in-Some
returns-in-Some c = early_over c.args.taken.now _ (earlier c.in-Some.ensures) c.first_after.ensures
