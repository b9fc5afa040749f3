-- Lists all of whose numbers have a property, and lists that hold no number twice, built by recursion on the list.
-- In order: `Each` with its laws (joined lists, a place of the list, a weaker property); then `Once` with its own.
use mathlib.Core.Path.{◌≡◌}
use mathlib.Core.List.{List, [], ◌∷◌, ◌++◌}
use Prim.Native.Nat.{ℕ, zero, suc, ◌<◌}
use native.Mathlib.Nat.{not-suc-le-zero, le_of_suc-le-suc}
use lib.ListN.{length, get_or}

-- ---- `Each`

-- every number of the list has the property
abbrev pub Each : (ℕ → Type 0) → List ℕ → Type 0
Each P [] = Unit {0}
Each P (x ∷ xs) = P x × Each P xs

-- of two lists joined
pub each_append : (P : ℕ → Type 0) (xs ys : List ℕ) → Each P xs → Each P ys → Each P (xs ++ ys)
each_append P [] ys p q = q
each_append P (x ∷ xs) ys p q = (p.0, each_append P xs ys p.1 q)

-- at a place of the list
pub each_at : (P : ℕ → Type 0) (xs : List ℕ) → Each P xs → (i : ℕ) → i < length xs → P (get_or xs i 0)
each_at P [] p i h = absurd (not-suc-le-zero h)
each_at P (x ∷ xs) p zero h = p.0
each_at P (x ∷ xs) p (suc i) h = each_at P xs p.1 i (le_of_suc-le-suc h)

-- a property that follows
pub each_map : (P Q : ℕ → Type 0) → ((x : ℕ) → P x → Q x) → (xs : List ℕ) → Each P xs → Each Q xs
each_map P Q f [] p = tt
each_map P Q f (x ∷ xs) p = (f x p.0, each_map P Q f xs p.1)

-- ---- `Once`

-- no number of the list is the given one
abbrev pub Lacks : List ℕ → ℕ → Type 0
Lacks xs x = Each (λ (y : ℕ). x ≡ y → ⊥) xs

-- no number stands twice in the list
abbrev pub Once : List ℕ → Type 0
Once [] = Unit {0}
Once (x ∷ xs) = Lacks xs x × Once xs

-- of two lists joined of which none of the first stands in the second
pub once_append : (xs ys : List ℕ) → Once xs → Once ys → Each (Lacks ys) xs → Once (xs ++ ys)
once_append [] ys p q e = q
once_append (x ∷ xs) ys p q e = (each_append _ xs ys p.0 e.0, once_append xs ys p.1 q e.1)

-- at two places of the list
pub once_at : (xs : List ℕ) → Once xs → (i j : ℕ) → i < j → j < length xs → get_or xs i 0 ≡ get_or xs j 0 → ⊥
once_at [] p i j h k = absurd (not-suc-le-zero k)
once_at (x ∷ xs) p i zero h k = absurd (not-suc-le-zero h)
once_at (x ∷ xs) p zero (suc j) h k = each_at (λ (y : ℕ). x ≡ y → ⊥) xs p.0 j (le_of_suc-le-suc k)
once_at (x ∷ xs) p (suc i) (suc j) h k = once_at xs p.1 i j (le_of_suc-le-suc h) (le_of_suc-le-suc k)
