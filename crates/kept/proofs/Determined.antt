-- The public function's answer follows from its arguments: any two results that its contract allows are equal.
use mathlib.Core.Path.{sym, ◌∙◌}
use Rattle.basics.proofs.Determined.{Determined}
use Rattle.kept.proofs.finding.Taken.first_after.Reads as first_after
use Rattle.kept.proofs.finding.Taken.first_after.Kinds as first_after_kinds

-- the first packet after a time
pub first_after_determined : Determined 1 first_after_kinds.ps first_after_kinds.r first_after.Post
first_after_determined κs a x y s t p q = p ∙ sym q
