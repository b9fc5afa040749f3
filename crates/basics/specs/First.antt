-- "The lowest number that passes a test", and "some number below n passes".
use Rattle.std.specs.Prelude.{Option, Some, None, Bool, true, false, not, ℕ, zero, suc, ltb}
use Rattle.basics.specs.Choose.{choose}

-- the lowest number that passes among the n numbers from i on, else i + n
unfoldable pub first_from : (ℕ → Bool) → ℕ → ℕ → ℕ
first_from test i zero = i
first_from test i (suc n) = elim (test i) [ true ↦ i | false ↦ first_from test (suc i) n ]

-- the lowest number below n that passes, else n
unfoldable pub first : (ℕ → Bool) → ℕ → ℕ
first test n = first_from test 0 n

-- some number below n passes
unfoldable pub some : (ℕ → Bool) → ℕ → Bool
some test n = ltb (first test n) n

-- every number below n passes
unfoldable pub every : (ℕ → Bool) → ℕ → Bool
every test n = not (some (λ i. not (test i)) n)

-- the lowest number below n that passes, or none
unfoldable pub found : (ℕ → Bool) → ℕ → Option ℕ
found test n = choose (some test n) (Some (first test n)) None
