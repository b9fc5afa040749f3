-- Laws that join a text split at a byte to places in the text. In order: the place of a byte, as `position` finds it; then a split's first
-- part and the parts behind it.
use mathlib.Core.Path.{◌≡◌, refl, sym, ◌∙◌, ap}
use mathlib.Core.Bool.{Bool, true, false, not}
use mathlib.Core.List.{List, [], ◌∷◌}
use Prim.Native.Nat.{ℕ, suc, ◌+◌, ◌≤◌, ◌<◌}
use native.Mathlib.Numerals.{add-one}
use native.Mathlib.Omega.{arith}
use borrow.Author.Tests.{ltb-true, ltb-false}
use lib.Dec.{eqb, ltb}
use lib.ListN.{length, take, drop, length-drop}
use lib.Seq.{drop-cons, drop-length}
use Rattle.basics.specs.Choose.{choose}
use Rattle.basics.proofs.Choose.{chosen_none, chosen_some}
use Rattle.std.specs.Prelude.{Option, Some, None, cond, position}
use Rattle.std.specs.List.{position_or_len}
use Rattle.std.specs.Option.{option_map}
use Rattle.records.specs.Records.{onto, split_by, index_of, place_from}

-- ---- the place of a byte

-- it is the place that `position` finds, or the length
index_is : (b : ℕ) (xs : List ℕ) → position_or_len (λ x. eqb x b) xs ≡ index_of b xs
unfolding index_of
index_is b [] = refl
index_is b (x ∷ xs) = go (eqb x b) (index_is b xs)
  where
    go : (t : Bool) → position_or_len (λ y. eqb y b) xs ≡ index_of b xs
        → cond (not t) (1 + position_or_len (λ y. eqb y b) xs) 0 ≡ elim t [ true ↦ 0 | false ↦ suc (index_of b xs) ]
    go true e = refl
    go false e = omega (arith, e)

-- what `position` finds, from a place on
pub place_is : (b : ℕ) (text : List ℕ) (from : ℕ) (r : Option ℕ) → r ≡ position (λ x. eqb x b) (drop from text)
    → option_map (λ k. from + k) r ≡ place_from b text from
unfolding place_from
place_is b text from r e = ap (option_map (λ k. from + k)) e ∙ rw (index_is b (drop from text)) (go (ltb (index_of b (drop from text)) (length (drop from text))))
  where
    go : (t : Bool) → option_map (λ k. from + k) (cond t (Some (index_of b (drop from text))) None) ≡ choose t (Some (from + index_of b (drop from text))) None
    go true = refl
    go false = refl

-- there is none from a place on
pub place_none : (b : ℕ) (text : List ℕ) (from : ℕ) → place_from b text from ≡ None → length text ≤ from + index_of b (drop from text)
unfolding place_from
place_none b text from e =
    omega (arith, ltb-false (index_of b (drop from text)) (length (drop from text)) (chosen_none _ _ e), length-drop from text)

-- there is one
pub place_some : (b : ℕ) (text : List ℕ) (from at : ℕ) → place_from b text from ≡ Some at → (at ≡ from + index_of b (drop from text)) × (at < length text)
unfolding place_from
place_some b text from at e =
    let found : (ltb (index_of b (drop from text)) (length (drop from text)) ≡ true) × (from + index_of b (drop from text) ≡ at) = chosen_some _ _ _ e in
    (sym found.1, omega (arith, ltb-true (index_of b (drop from text)) (length (drop from text)) found.0, found.1, length-drop from text))

-- it is the length at most
pub index_le : (b : ℕ) (xs : List ℕ) → index_of b xs ≤ length xs
unfolding index_of
index_le b [] = omega arith
index_le b (x ∷ xs) = go (eqb x b) refl (index_le b xs)
  where
    go : (t : Bool) → eqb x b ≡ t → index_of b xs ≤ length xs → index_of b (x ∷ xs) ≤ length (x ∷ xs)
    go true e h = rw (e, index_of) (omega arith)
    go false e h = rw (e, index_of) (omega arith)

-- ---- a split's parts

-- the parts behind the first, of a text that begins with the byte, or is empty
unfoldable pub behind : ℕ → List ℕ → List (List ℕ)
behind b [] = []
behind b (x ∷ xs) = split_by b xs

-- a split is what stands before the first such byte, and the parts behind it
pub split_at_first : (b : ℕ) (xs : List ℕ) → split_by b xs ≡ take (index_of b xs) xs ∷ behind b (drop (index_of b xs) xs)
unfolding split_by onto index_of behind
split_at_first b [] = refl
split_at_first b (x ∷ xs) = go (eqb x b) refl (split_at_first b xs)
  where
    go : (t : Bool) → eqb x b ≡ t → split_by b xs ≡ take (index_of b xs) xs ∷ behind b (drop (index_of b xs) xs)
        → split_by b (x ∷ xs) ≡ take (index_of b (x ∷ xs)) (x ∷ xs) ∷ behind b (drop (index_of b (x ∷ xs)) (x ∷ xs))
    go true e ih = rw (e, split_by, index_of)
    go false e ih = rw (e, split_by, index_of) (ap (onto x) ih)

-- the parts behind a place of the text
pub behind_at : (b : ℕ) (text : List ℕ) (i : ℕ) → i < length text → behind b (drop i text) ≡ split_by b (drop (i + 1) text)
unfolding behind
behind_at b text i h = rw (add-one, drop-cons text i 0)

-- there are none behind the end
pub behind_end : (b : ℕ) (text : List ℕ) (i : ℕ) → i ≡ length text → behind b (drop i text) ≡ []
unfolding behind
behind_end b text i e = ap (λ (k : ℕ). behind b (drop k text)) e ∙ ap (behind b) (drop-length text)
