-- Lists given by a rule, and lists filled up to a length.
use Rattle.std.specs.Prelude.{List, [], ◌∷◌, ◌++◌, ℕ, zero, suc, ◌-◌, length, replicate}

-- the list f i, f (i + 1), .. of n entries
unfoldable pub tabulate {ℓ} : {X : Type ℓ} → (ℕ → X) → ℕ → ℕ → List X
tabulate f i zero = []
tabulate f i (suc n) = f i ∷ tabulate f (suc i) n

-- the list filled up to n entries with one value
unfoldable pub padded {ℓ} : {X : Type ℓ} → ℕ → X → List X → List X
padded n fill xs = xs ++ replicate (n - length xs) fill
