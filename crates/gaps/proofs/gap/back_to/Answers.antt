-- `back_to` leaves one packet less in each turn (proofs/Backing.antt).
use Rattle.gaps.proofs.Backing.{back_begin, back_on, back_here, back_all}
use Rattle.gaps.proofs.gap.back_to.Goals as goal

pub loop-q-init : goal.loop-q-init
loop-q-init c = back_begin c.requires

pub loop-q-preserved : goal.loop-q-preserved
loop-q-preserved c = back_on c.loop-q.invariant c.in-Some.q.now c.in-Some.rest.now c.in-Some.ensures.cases c.if-taken-q.false

pub returns-then-taken-q : goal.returns-then-taken-q
returns-then-taken-q c = back_here c.loop-q.invariant c.in-Some.q.now c.in-Some.rest.now c.in-Some.ensures.cases c.if-taken-q.true

pub returns-in_default : goal.returns-in_default
returns-in_default c = back_all c.loop-q.invariant c.in_default.ensures.cases
