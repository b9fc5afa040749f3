-- The answer of the walk follows from its arguments: any two results that its contract allows are equal.
use mathlib.Core.Path.{sym, ◌∙◌}
use Rattle.basics.proofs.Determined.{Determined}
use Rattle.ranges.proofs.outside.first_outside.Reads as first_outside
use Rattle.ranges.proofs.outside.first_outside.Kinds as first_outside_kinds

-- the lowest packet out of range
pub first_outside_determined : Determined 1 first_outside_kinds.ps first_outside_kinds.r first_outside.Post
first_outside_determined κs a x y s t p q = p ∙ sym q
