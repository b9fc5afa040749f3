-- Every public function's answer follows from its arguments: any two results that its contract allows are equal.
use mathlib.Core.Path.{sym, ◌∙◌}
use Rattle.basics.proofs.Determined.{Determined}
use Rattle.gaps.proofs.gap.gap_for.Reads as gap_for
use Rattle.gaps.proofs.gap.time_past.Reads as time_past_reads
use Rattle.gaps.proofs.gap.time_past.Kinds as time_past_kinds
use Rattle.gaps.proofs.gap.gap_for.Kinds as gap_for_kinds

-- the first gap
pub gap_for_determined : Determined 4 gap_for_kinds.ps gap_for_kinds.r gap_for.Post
gap_for_determined κs a x y s t p q = p ∙ sym q

-- the first time past an end
pub time_past_determined : Determined 0 time_past_kinds.ps time_past_kinds.r time_past_reads.Post
time_past_determined κs a x y s t p q = p ∙ sym q
