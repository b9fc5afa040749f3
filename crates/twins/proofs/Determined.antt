-- The public function's answer follows from its arguments: any two results that its contract allows are equal.
use mathlib.Core.Path.{sym, ◌∙◌}
use Rattle.basics.proofs.Determined.{Determined}
use Rattle.twins.proofs.following.resume.Reads as resume
use Rattle.twins.proofs.following.resume.Kinds as resume_kinds

-- the time from which on a gap is sought
pub resume_determined : Determined 2 resume_kinds.ps resume_kinds.r resume.Post
resume_determined κs a x y s t p q = p ∙ sym q
