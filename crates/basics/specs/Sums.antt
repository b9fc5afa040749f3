-- Sums over the numbers below n, and how many of them pass a test.
use Rattle.std.specs.Prelude.{Bool, ℕ, zero, suc, ◌+◌}
use Rattle.basics.specs.Choose.{as_number}

-- f 0 + f 1 + .. + f (n - 1)
unfoldable pub sum_of : (ℕ → ℕ) → ℕ → ℕ
sum_of f zero = 0
sum_of f (suc n) = sum_of f n + f n

-- how many numbers below n pass the test
unfoldable pub count_of : (ℕ → Bool) → ℕ → ℕ
count_of test n = sum_of (λ i. as_number (test i)) n
