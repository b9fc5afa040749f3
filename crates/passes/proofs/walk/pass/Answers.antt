-- `pass` steps through its list; it is broken off, or runs to the end (proofs/Running.antt).
use mathlib.Core.Path.{refl, ◌∙◌, ap}
use lib.ListN.{length, length-replicate}
use Prim.Native.Nat.{ℕ}
use Rattle.settling.specs.Settling.{nothing_taken}
use Rattle.kept.specs.declared.finding.Taken.{Taken}
use Rattle.passes.proofs.Stepping.{place_asks, settles}
use Rattle.passes.proofs.Failing.{turns}
use Rattle.passes.proofs.Running.{running_start, more, running_placed, running_skipped, running_broken, running_whole}
use Rattle.passes.proofs.walk.pass.Goals.{in-At, in-Nowhere+in-Skipped}
use Rattle.passes.proofs.walk.pass.Goals as goal

pub loop-at-init : goal.loop-at-init
unfolding nothing_taken
loop-at-init c =
    let is = c.nothing_taken-taken.ensures in
    running_start c.requires (ap (λ (k : Taken). k.times) is) (ap (λ (k : Taken). length k.by) is ∙ length-replicate {A = ℕ} 1024 0) (ap (λ (k : Taken). k.count) is) refl

pub place-gap-requires : goal.place-gap-requires
place-gap-requires c = place_asks c.loop-at.invariant.ready c.loop-at.invariant.going (more c.loop-at.invariant c.loop-at-test.true) c.loop-at.invariant.honest

pub settle-requires : goal.settle-requires
settle-requires c = settles c.loop-at.invariant.ready c.loop-at.invariant.going (more c.loop-at.invariant c.loop-at-test.true) c.place-gap.ensures.0 c.in-At.is

pub turn_away-requires : goal.turn_away-requires
turn_away-requires c = turns c.loop-at.invariant.ready c.loop-at.invariant.going (more c.loop-at.invariant c.loop-at-test.true)

pub returns-in-Again : goal.returns-in-Again
returns-in-Again c = running_broken c.loop-at.invariant c.loop-at-test.true c.place-gap.ensures.0 c.place-gap.ensures.1 c.in-Nowhere.is c.turn_away.ensures.0 c.turn_away.ensures.1 c.in-Again.is

pub loop-at-preserved : goal.loop-at-preserved
loop-at-preserved c = elim c.match-gap.branch [
  | in-At w ↦
      rw (w.state-is, w.tries-is)
      (running_placed c.loop-at.invariant c.loop-at-test.true c.place-gap.ensures.0 c.place-gap.ensures.1 w.in-At.is (w.taken-is ∙ w.settle.ensures))
  | in-Nowhere+in-Skipped w ↦
      rw (w.taken-is, w.tries-is)
      (running_skipped c.loop-at.invariant c.loop-at-test.true c.place-gap.ensures.0 c.place-gap.ensures.1 w.in-Nowhere.is (w.state-is ∙ w.turn_away.ensures.0) w.turn_away.ensures.1 w.in-Skipped.is)
]

pub returns : goal.returns
returns c = running_whole c.loop-at.invariant c.loop-at-test.false
