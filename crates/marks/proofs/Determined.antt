-- Every answer follows from its arguments: any two results, or marks left, that its contract allows are equal.
use mathlib.Core.Path.{◌≡◌, sym, ◌∙◌}
use contract.Lifetimes.{Lfts}
use denote.Triple.Clauses.{AtExit}
use borrow.Fn.Kinds.{Dens, res_t, ended_of}
use Rattle.basics.proofs.Determined.{Determined}
use Rattle.marks.proofs.marks.Mark.of.Reads as of_reads
use Rattle.marks.proofs.marks.Mark.of.Kinds as of_kinds
use Rattle.marks.proofs.marks.stamp.Reads as stamp
use Rattle.marks.proofs.marks.stamp.Kinds as stamp_kinds
use Rattle.marks.proofs.marks.has_mark.Reads as has_mark
use Rattle.marks.proofs.marks.has_mark.Kinds as has_mark_kinds

-- the mark of a flow
pub of_determined : Determined 0 of_kinds.ps of_kinds.r of_reads.Post
of_determined κs a x y s t p q = p ∙ sym q

-- the marks of a path made
pub stamp_determined : (κs : Lfts 2) (a : Dens κs stamp_kinds.ps) (x y : (res_t stamp_kinds.r κs).Denot)
    (s t : AtExit (ended_of 2 stamp_kinds.ps stamp_kinds.r) κs) → stamp.Post κs a x s → stamp.Post κs a y t → s.0.now ≡ t.0.now
stamp_determined κs a x y s t p q = p ∙ sym q

-- whether a link has the mark of a flow
pub has_mark_determined : Determined 1 has_mark_kinds.ps has_mark_kinds.r has_mark.Post
has_mark_determined κs a x y s t p q = p ∙ sym q
