-- `stamp` makes one mark in each turn.
use Prim.Native.Nat.{ℕ}
use mathlib.Core.Path.{refl, sym, ◌∙◌, ap}
use mathlib.Core.List.{List}
use native.Mathlib.Numerals.{add-one}
use lib.ListN.{get_or, set}
use Rattle.std.specs.Prelude.{Option, Some}
use Rattle.marks.specs.Marks.{stamped}
use Rattle.marks.proofs.marks.stamp.Goals as goal

pub loop-link-init : goal.loop-link-init
unfolding stamped
loop-link-init c = refl

pub loop-link-preserved : goal.loop-link-preserved
unfolding stamped
loop-link-preserved c =
    rw (c.from.ensures, c.of-mark.ensures)
    (ap (λ (m : List (Option ℕ)). set m (get_or c.args.path.now c.loop-link.link-index 0) (Some c.args.own)) c.loop-link.invariant
    ∙ ap (λ (n : ℕ). stamped c.args.path.now c.args.own n c.args.marks.now) (sym (add-one c.loop-link.link-index)))
