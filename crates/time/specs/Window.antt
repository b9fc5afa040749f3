-- Windows: the cycles from a start on, over a length.
use Rattle.std.specs.Prelude.{Bool, ℕ, ◌+◌, leb, ltb}
use Rattle.basics.specs.Choose.{both}

-- a window holds the cycles start to start + length − 1
unfoldable pub holds : ℕ → ℕ → ℕ → Bool
holds start length cycle = both (leb start cycle) (ltb cycle (start + length))

-- two windows overlap if each starts before the other's end
unfoldable pub overlaps : ℕ → ℕ → ℕ → ℕ → Bool
overlaps s a t b = both (ltb s (t + b)) (ltb t (s + a))
