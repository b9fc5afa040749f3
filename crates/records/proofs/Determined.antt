-- Every public function's answer, and the numbers lent to it, follow from its arguments: any two that its contract allows are equal, wherever
-- the same bytes are kept.
use mathlib.Core.Path.{◌≡◌, refl, sym, ◌∙◌, ap}
use mathlib.Core.List.{List}
use Prim.Native.Nat.{ℕ}
use mir.Val.{Fits}
use mir.Syntax.{w64}
use contract.Lifetimes.{Lfts}
use denote.Triple.Clauses.{AtExit}
use borrow.Fn.Kinds.{Dens, res_t, ended_of}
use lib.ListN.{length, replicate}
use Rattle.std.specs.Prelude.{Option, Some, None, IfNone}
use Rattle.std.specs.Option.{option_map}
use Rattle.records.specs.Records.{record_of}
use Rattle.records.proofs.fields.find.Reads as find
use Rattle.records.proofs.fields.find.Kinds as find_kinds
use Rattle.records.proofs.fields.read_into.Reads as read_into
use Rattle.records.proofs.fields.read_into.Kinds as read_into_kinds
use Rattle.records.proofs.fields.read_record.Reads as read_record
use Rattle.records.proofs.fields.read_record.Kinds as read_record_kinds

-- the place of a byte, of any two slices that hold the same bytes
pub find_determined : (κs λs : Lfts 1) (a : Dens κs find_kinds.ps) (b : Dens λs find_kinds.ps)
    (x : (res_t find_kinds.r κs).Denot) (y : (res_t find_kinds.r λs).Denot)
    (s : AtExit (ended_of 1 find_kinds.ps find_kinds.r) κs)
    (t : AtExit (ended_of 1 find_kinds.ps find_kinds.r) λs)
    → a.0.now ≡ b.0.now → a.1.0 ≡ b.1.0 → a.1.1.0 ≡ b.1.1.0
    → find.Post κs a x s → find.Post λs b y t → x ≡ y
find_determined κs λs a b x y s t text byte from p q = p ∙ (cc) ∙ sym q

-- numbers that one answer fixes, and that are zeros where there is none
read_once : (x y : Option (Unit {0})) (left₁ left₂ : List ℕ) (n₁ n₂ : ℕ) → n₁ ≡ n₂ → option_map (λ _. left₁) x ≡ option_map (λ _. left₂) y
    → IfNone x (left₁ ≡ replicate n₁ 0) → IfNone y (left₂ ≡ replicate n₂ 0) → (x ≡ y) × (left₁ ≡ left₂)
read_once None None left₁ left₂ n₁ n₂ n e p q = (refl, p ∙ ap (λ (k : ℕ). replicate k 0) n ∙ sym q)
read_once None (Some v) left₁ left₂ n₁ n₂ n e p q = cc
read_once (Some u) None left₁ left₂ n₁ n₂ n e p q = cc
read_once (Some u) (Some v) left₁ left₂ n₁ n₂ n e p q = (refl, cc)

-- a line as a record of as many numbers as are lent, and what they become, of any two lines and words that are the same
pub read_into_determined : (κs λs : Lfts 3) (a : Dens κs read_into_kinds.ps) (b : Dens λs read_into_kinds.ps)
    (x : (res_t read_into_kinds.r κs).Denot) (y : (res_t read_into_kinds.r λs).Denot)
    (s : AtExit (ended_of 3 read_into_kinds.ps read_into_kinds.r) κs)
    (t : AtExit (ended_of 3 read_into_kinds.ps read_into_kinds.r) λs)
    → a.0.now ≡ b.0.now → a.1.0.now ≡ b.1.0.now → length a.1.1.0.now ≡ length b.1.1.0.now
    → read_into.Post κs a x s → read_into.Post λs b y t → (x ≡ y) × (s.1.1.0.now ≡ t.1.1.0.now)
read_into_determined κs λs a b x y s t line word numbers p q =
    let same : record_of a.1.0.now (length a.1.1.0.now) a.0.now ≡ record_of b.1.0.now (length b.1.1.0.now) b.0.now = cc in
    read_once x y _ _ _ _ numbers (p.0 ∙ same ∙ sym q.0) p.1 q.1

-- a line as a record of so many numbers, of any two lines and words that are the same
module _ (N : ℕ) (fits : Fits w64 N) where
  pub read_record_determined : (κs λs : Lfts 3) (a : Dens κs (read_record_kinds.ps N fits)) (b : Dens λs (read_record_kinds.ps N fits))
      (x : (res_t (read_record_kinds.r N fits) κs).Denot) (y : (res_t (read_record_kinds.r N fits) λs).Denot)
      (s : AtExit (ended_of 3 (read_record_kinds.ps N fits) (read_record_kinds.r N fits)) κs)
      (t : AtExit (ended_of 3 (read_record_kinds.ps N fits) (read_record_kinds.r N fits)) λs)
      → a.0.now ≡ b.0.now → a.1.0.now ≡ b.1.0.now
      → read_record.Post N fits κs a x s → read_record.Post N fits λs b y t → x ≡ y
  read_record_determined κs λs a b x y s t line word p q = p ∙ (cc) ∙ sym q
