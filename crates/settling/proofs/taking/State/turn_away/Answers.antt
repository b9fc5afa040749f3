-- `turn_away` raises the fail count, moves the packet to the front, and compares the count with the threshold.
use mathlib.Core.Path.{refl, sym}
use borrow.Author.Tests.{lt-ltb, le-ltb}
use Rattle.settling.specs.Settling.{raised, turned, turned_away}
use Rattle.settling.proofs.taking.State.turn_away.Goals as goal

pub returns-then-fail-threshold : goal.returns-then-fail-threshold
unfolding turned_away turned raised
returns-then-fail-threshold c = (rw c.put_in.ensures (sym (rw (lt-ltb _ _ c.if-fail-threshold.true) refl)), sym (rw (lt-ltb _ _ c.if-fail-threshold.true) refl))

pub returns : goal.returns
unfolding turned_away turned raised
returns c = (rw c.put_in.ensures (sym (rw (le-ltb _ _ c.if-fail-threshold.false) refl)), sym (rw (le-ltb _ _ c.if-fail-threshold.false) refl))
