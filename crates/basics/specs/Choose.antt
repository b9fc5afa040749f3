-- A test's two outcomes: as a choice between two values, and as a number.
use Rattle.std.specs.Prelude.{Bool, true, false, ℕ}

-- the first value where the test passes, else the second
abbrev pub choose {ℓ} : {X : Type ℓ} → Bool → X → X → X
choose true x y = x
choose false x y = y

-- both tests pass
abbrev pub both : Bool → Bool → Bool
both true b = b
both false b = false

-- one test or the other passes
abbrev pub either : Bool → Bool → Bool
either true b = true
either false b = b

-- 1 for a test that passes, else 0
abbrev pub as_number : Bool → ℕ
as_number true = 1
as_number false = 0
