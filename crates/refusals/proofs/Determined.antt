-- The refusal of a model follows from its numbers: any two results that the contract allows are equal, wherever the numbers are kept.
-- `Post` is a contract's `ensures` as a plain claim of the arguments, the result and the arguments at exit.
use mathlib.Core.Path.{◌≡◌, sym, ◌∙◌}
use contract.Lifetimes.{Lfts}
use denote.Triple.Clauses.{AtExit}
use borrow.Fn.Kinds.{Dens, res_t, ended_of}
use Rattle.refusals.proofs.judge.refusal.Reads as refusal
use Rattle.refusals.proofs.judge.refusal.Kinds as refusal_kinds

-- the refusal of a model, of any two slices that hold the same numbers
pub refusal_determined : (κs λs : Lfts 1) (a : Dens κs refusal_kinds.ps) (b : Dens λs refusal_kinds.ps)
    (x : (res_t refusal_kinds.r κs).Denot) (y : (res_t refusal_kinds.r λs).Denot)
    (s : AtExit (ended_of 1 refusal_kinds.ps refusal_kinds.r) κs)
    (t : AtExit (ended_of 1 refusal_kinds.ps refusal_kinds.r) λs)
    → a.0 ≡ b.0 → a.1.0 ≡ b.1.0 → a.1.1.0.now ≡ b.1.1.0.now
    → refusal.Post κs a x s → refusal.Post λs b y t → x ≡ y
refusal_determined κs λs a b x y s t mesh between same p q = p ∙ (cc) ∙ sym q
