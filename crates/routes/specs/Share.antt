-- Links in common.
use Rattle.std.specs.Prelude.{Bool, List, ℕ, eqb, length, get_or}
use Rattle.basics.specs.First.{some}

-- a path has a link
unfoldable pub has : List ℕ → ℕ → Bool
has path link = some (λ i. eqb (get_or path i 0) link) (length path)

-- two paths share a link
unfoldable pub shares : List ℕ → List ℕ → Bool
shares a b = some (λ i. has b (get_or a i 0)) (length a)
