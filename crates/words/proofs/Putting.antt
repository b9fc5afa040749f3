-- Laws of text written into a lent buffer: two words one after the other, and what stands in front in the end.
use mathlib.Core.Path.{◌≡◌, sym, ◌∙◌, ap}
use mathlib.Core.List.{List, ◌++◌, append_assoc}
use Prim.Native.Nat.{ℕ, ◌+◌, ◌≤◌}
use native.Mathlib.Omega.{arith}
use lib.ListN.{length, take, drop, length-append}
use lib.Seq.{take-paste, drop-paste, take-length, drop-drop}
use Rattle.words.specs.Writer.{Put, in_front}

-- room for as many bytes is room for the word
module _ (most₁ most₂ : ℕ) (before between after : List ℕ) (at : ℕ) (word₁ word₂ : List ℕ) (next₁ next₂ : ℕ) (room : at + (most₁ + most₂) ≤ length before)
    (p : Put most₁ before between at word₁ next₁) (q : Put most₂ between after next₁ word₂ next₂) where
  -- what stands before the second word
  front : take next₁ between ≡ take at before ++ word₁
  front =
      ap (λ (k : ℕ). take k between) p.place
      ∙ ap (take (at + length word₁)) p.text
      ∙ take-paste before at word₁ (length word₁) (omega arith) (omega arith)
      ∙ ap (λ (l : List ℕ). take at before ++ l) (take-length word₁)

  -- what stands behind it
  back : drop (next₁ + length word₂) between ≡ drop (at + length (word₁ ++ word₂)) before
  back =
      sym (drop-drop (length word₂) next₁ between)
      ∙ ap (λ (k : ℕ). drop (length word₂) (drop k between)) p.place
      ∙ ap (λ (l : List ℕ). drop (length word₂) (drop (at + length word₁) l)) p.text
      ∙ ap (drop (length word₂)) (drop-paste before at word₁ (length word₁) (omega arith) (omega arith))
      ∙ drop-drop (length word₂) (at + length word₁) before
      ∙ ap (λ (k : ℕ). drop k before)
      (let k : at + length word₁ + length word₂ ≡ at + length (word₁ ++ word₂) = omega (arith, length-append word₁ word₂) in k)

  -- two words are one
  pub put_next : Put (most₁ + most₂) before after at (word₁ ++ word₂) next₂
  put_next = record {
    place = omega (arith, length-append word₁ word₂);
    size = omega (arith, length-append word₁ word₂);
    text =
        q.text
        ∙ ap (λ (l : List ℕ). l ++ take (length word₂) word₂ ++ drop (next₁ + length word₂) between) front
        ∙ ap (λ (l : List ℕ). take at before ++ word₁ ++ l ++ drop (next₁ + length word₂) between) (take-length word₂)
        ∙ ap (λ (l : List ℕ). take at before ++ word₁ ++ word₂ ++ l) back
        ∙ ap (λ (l : List ℕ). l ++ drop (at + length (word₁ ++ word₂)) before)
        (append_assoc (take at before) word₁ word₂ ∙ ap (λ (l : List ℕ). take at before ++ l) (sym (take-length (word₁ ++ word₂))));
  }

-- a word by another name
pub put_as : (most : ℕ) (before after : List ℕ) (at : ℕ) (word word' : List ℕ) (next : ℕ) → word ≡ word' → Put most before after at word next
    → Put most before after at word' next
put_as most before after at word word' next e p = rw e at p

-- room for more
pub put_within : (most most' : ℕ) (before after : List ℕ) (at : ℕ) (word : List ℕ) (next : ℕ) → most ≤ most' → Put most before after at word next
    → Put most' before after at word next
put_within most most' before after at word next h p = record { place = p.place; size = omega arith; text = p.text }

-- a word at the very front
pub put_front : (most : ℕ) (before after word : List ℕ) (next : ℕ) → Put most before after 0 word next → after ≡ in_front word before
unfolding in_front
put_front most before after word next p =
    p.text ∙ ap (λ (l : List ℕ). l ++ drop (0 + length word) before) (take-length word)
    ∙ ap (λ (k : ℕ). word ++ drop k before) (let k : 0 + length word ≡ length word = omega arith in k)
