-- `stamp` makes one mark in each turn.
use mathlib.Core.Path.{◌≡◌}
use Rattle.marks.specs.Marks.{stamped}
use Rattle.marks.proofs.marks.stamp.Given as goal

abbrev pub invariant-loop-link : goal.invariant-loop-link
invariant-loop-link l = l.marks ≡ stamped l.path l.own l.link-index l.initial.marks
