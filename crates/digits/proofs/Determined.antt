-- The number of a field follows from the arguments: any two that the contract allows are equal, wherever the same bytes are kept.
use mathlib.Core.Path.{◌≡◌, sym, ◌∙◌}
use contract.Lifetimes.{Lfts}
use denote.Triple.Clauses.{AtExit}
use borrow.Fn.Kinds.{Dens, res_t, ended_of}
use Rattle.digits.proofs.digits.read_number.Reads as read_number
use Rattle.digits.proofs.digits.read_number.Kinds as read_number_kinds

-- the number of a field, of any two fields that hold the same bytes
pub read_number_determined : (κs λs : Lfts 1) (a : Dens κs read_number_kinds.ps) (b : Dens λs read_number_kinds.ps)
    (x : (res_t read_number_kinds.r κs).Denot) (y : (res_t read_number_kinds.r λs).Denot)
    (s : AtExit (ended_of 1 read_number_kinds.ps read_number_kinds.r) κs)
    (t : AtExit (ended_of 1 read_number_kinds.ps read_number_kinds.r) λs)
    → a.0.now ≡ b.0.now → a.1.0 ≡ b.1.0 → a.1.1.0 ≡ b.1.1.0
    → read_number.Post κs a x s → read_number.Post λs b y t → x ≡ y
read_number_determined κs λs a b x y s t field digits most p q = p ∙ (cc) ∙ sym q
