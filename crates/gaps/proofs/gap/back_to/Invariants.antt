-- `back_to` leaves one packet less in each turn (proofs/Backing.antt).
use lib.ListN.{length}
use Rattle.gaps.proofs.Backing.{Backing}
use Rattle.gaps.proofs.gap.back_to.Given as goal

abbrev pub invariant-loop-q : goal.invariant-loop-q
invariant-loop-q l = Backing l.taken l.before l.time

abbrev pub decreases-loop-q : goal.decreases-loop-q
decreases-loop-q l = length l.before
