-- Every public function's answer, and the buffer lent to it, follow from its arguments: any two that its contract allows are equal,
-- wherever the same bytes are kept.
use mathlib.Core.Path.{◌≡◌, sym, ◌∙◌, ap}
use mathlib.Core.List.{List, [], ◌∷◌}
use Prim.Native.Nat.{ℕ, ◌+◌}
use contract.Lifetimes.{Lfts}
use denote.Triple.Clauses.{AtExit}
use borrow.Fn.Kinds.{Dens, res_t, ended_of}
use lib.ListN.{length}
use lib.Seq.{paste}
use Rattle.digits.specs.Numbers.{decimal}
use Rattle.words.specs.Fields.{field, time_field}
use Rattle.words.specs.Writer.{Put}
use Rattle.words.proofs.writing.put_byte.Reads as put_byte
use Rattle.words.proofs.writing.put_byte.Kinds as put_byte_kinds
use Rattle.words.proofs.writing.put_word.Reads as put_word
use Rattle.words.proofs.writing.put_word.Kinds as put_word_kinds
use Rattle.words.proofs.writing.put_number.Reads as put_number
use Rattle.words.proofs.writing.put_number.Kinds as put_number_kinds
use Rattle.words.proofs.writing.put_field.Reads as put_field
use Rattle.words.proofs.writing.put_field.Kinds as put_field_kinds
use Rattle.words.proofs.writing.put_time.Reads as put_time
use Rattle.words.proofs.writing.put_time.Kinds as put_time_kinds

-- the same word put at the same place of the same bytes ends at one place and leaves the same bytes
put_once : (most₁ most₂ : ℕ) (before₁ before₂ after₁ after₂ : List ℕ) (at₁ at₂ : ℕ) (word₁ word₂ : List ℕ) (x y : ℕ)
    → before₁ ≡ before₂ → at₁ ≡ at₂ → word₁ ≡ word₂
    → Put most₁ before₁ after₁ at₁ word₁ x → Put most₂ before₂ after₂ at₂ word₂ y → (x ≡ y) × (after₁ ≡ after₂)
put_once most₁ most₂ before₁ before₂ after₁ after₂ at₁ at₂ word₁ word₂ x y b a w p q =
    let place_is : at₁ + length word₁ ≡ at₂ + length word₂ = cc in
    let text_is : paste before₁ at₁ word₁ (length word₁) ≡ paste before₂ at₂ word₂ (length word₂) = cc in
    (p.place ∙ place_is ∙ sym q.place, p.text ∙ text_is ∙ sym q.text)

-- one byte
pub put_byte_determined : (κs λs : Lfts 1) (a : Dens κs put_byte_kinds.ps) (b : Dens λs put_byte_kinds.ps)
    (x : (res_t put_byte_kinds.r κs).Denot) (y : (res_t put_byte_kinds.r λs).Denot)
    (s : AtExit (ended_of 1 put_byte_kinds.ps put_byte_kinds.r) κs)
    (t : AtExit (ended_of 1 put_byte_kinds.ps put_byte_kinds.r) λs)
    → a.0.now ≡ b.0.now → a.1.0 ≡ b.1.0 → a.1.1.0 ≡ b.1.1.0
    → put_byte.Post κs a x s → put_byte.Post λs b y t → (x ≡ y) × (s.0.now ≡ t.0.now)
put_byte_determined κs λs a b x y s t out at byte p q = put_once _ _ _ _ _ _ _ _ _ _ _ _ out at (ap (λ (k : ℕ). k ∷ []) byte) p q

-- a word
pub put_word_determined : (κs λs : Lfts 2) (a : Dens κs put_word_kinds.ps) (b : Dens λs put_word_kinds.ps)
    (x : (res_t put_word_kinds.r κs).Denot) (y : (res_t put_word_kinds.r λs).Denot)
    (s : AtExit (ended_of 2 put_word_kinds.ps put_word_kinds.r) κs)
    (t : AtExit (ended_of 2 put_word_kinds.ps put_word_kinds.r) λs)
    → a.0.now ≡ b.0.now → a.1.0 ≡ b.1.0 → a.1.1.0.now ≡ b.1.1.0.now
    → put_word.Post κs a x s → put_word.Post λs b y t → (x ≡ y) × (s.0.now ≡ t.0.now)
put_word_determined κs λs a b x y s t out at word p q = put_once _ _ _ _ _ _ _ _ _ _ _ _ out at word p q

-- a number in digits
pub put_number_determined : (κs λs : Lfts 1) (a : Dens κs put_number_kinds.ps) (b : Dens λs put_number_kinds.ps)
    (x : (res_t put_number_kinds.r κs).Denot) (y : (res_t put_number_kinds.r λs).Denot)
    (s : AtExit (ended_of 1 put_number_kinds.ps put_number_kinds.r) κs)
    (t : AtExit (ended_of 1 put_number_kinds.ps put_number_kinds.r) λs)
    → a.0.now ≡ b.0.now → a.1.0 ≡ b.1.0 → a.1.1.0 ≡ b.1.1.0
    → put_number.Post κs a x s → put_number.Post λs b y t → (x ≡ y) × (s.0.now ≡ t.0.now)
put_number_determined κs λs a b x y s t out at n p q = put_once _ _ _ _ _ _ _ _ _ _ _ _ out at (ap decimal n) p q

-- a number's field
pub put_field_determined : (κs λs : Lfts 1) (a : Dens κs put_field_kinds.ps) (b : Dens λs put_field_kinds.ps)
    (x : (res_t put_field_kinds.r κs).Denot) (y : (res_t put_field_kinds.r λs).Denot)
    (s : AtExit (ended_of 1 put_field_kinds.ps put_field_kinds.r) κs)
    (t : AtExit (ended_of 1 put_field_kinds.ps put_field_kinds.r) λs)
    → a.0.now ≡ b.0.now → a.1.0 ≡ b.1.0 → a.1.1.0 ≡ b.1.1.0
    → put_field.Post κs a x s → put_field.Post λs b y t → (x ≡ y) × (s.0.now ≡ t.0.now)
put_field_determined κs λs a b x y s t out at n p q = put_once _ _ _ _ _ _ _ _ _ _ _ _ out at (ap field n) p q

-- a time's field
pub put_time_determined : (κs λs : Lfts 1) (a : Dens κs put_time_kinds.ps) (b : Dens λs put_time_kinds.ps)
    (x : (res_t put_time_kinds.r κs).Denot) (y : (res_t put_time_kinds.r λs).Denot)
    (s : AtExit (ended_of 1 put_time_kinds.ps put_time_kinds.r) κs)
    (t : AtExit (ended_of 1 put_time_kinds.ps put_time_kinds.r) λs)
    → a.0.now ≡ b.0.now → a.1.0 ≡ b.1.0 → a.1.1.0 ≡ b.1.1.0
    → put_time.Post κs a x s → put_time.Post λs b y t → (x ≡ y) × (s.0.now ≡ t.0.now)
put_time_determined κs λs a b x y s t out at time p q = put_once _ _ _ _ _ _ _ _ _ _ _ _ out at (ap time_field time) p q
