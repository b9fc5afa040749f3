-- The check's answer follows from its arguments: any two results that its contract allows are equal.
-- `Post` is the contract's `ensures` as a plain claim; of the two lent slices the same numbers are enough, wherever they are kept.
use mathlib.Core.Path.{◌≡◌, sym, ◌∙◌}
use contract.Lifetimes.{Lfts}
use denote.Triple.Clauses.{AtExit}
use borrow.Fn.Kinds.{Dens, res_t, ended_of}
use Rattle.audit.proofs.verdict.check.Reads as check
use Rattle.audit.proofs.verdict.check.Kinds as check_kinds

-- the check of a table, of any slices that hold the same numbers
pub check_determined : (κs λs : Lfts 2) (a : Dens κs check_kinds.ps) (b : Dens λs check_kinds.ps)
    (x : (res_t check_kinds.r κs).Denot) (y : (res_t check_kinds.r λs).Denot)
    (s : AtExit (ended_of 2 check_kinds.ps check_kinds.r) κs)
    (t : AtExit (ended_of 2 check_kinds.ps check_kinds.r) λs)
    → a.0 ≡ b.0 → a.1.0.now ≡ b.1.0.now → a.1.1.0.now ≡ b.1.1.0.now
    → check.Post κs a x s → check.Post λs b y t → x ≡ y
check_determined κs λs a b x y s t mesh numbers table p q = p ∙ (cc) ∙ sym q
