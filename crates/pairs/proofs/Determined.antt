-- The answer of the walk follows from its arguments: any two results that its contract allows are equal.
use mathlib.Core.Path.{sym, ◌∙◌}
use Rattle.basics.proofs.Determined.{Determined}
use Rattle.pairs.proofs.scan.first_meeting.Reads as first_meeting_reads
use Rattle.pairs.proofs.scan.first_meeting.Kinds as first_meeting_kinds

-- the lowest pair that collides
pub first_meeting_determined : Determined 1 first_meeting_kinds.ps first_meeting_kinds.r first_meeting_reads.Post
first_meeting_determined κs a x y s t p q = p ∙ sym q
