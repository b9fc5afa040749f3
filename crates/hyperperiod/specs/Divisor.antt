-- The greatest common divisor by recursion on a falling remainder, and the least common multiple.
use Rattle.std.specs.Prelude.{ℕ, zero, suc, ◌*◌, ◌/◌, ◌%◌}

-- `fuel` bounds the depth; the remainder falls, so the second number is enough (`gcd_step` in proofs/ has the equation)
unfoldable pub gcd_f : ℕ → ℕ → ℕ → ℕ
gcd_f zero a b = a
gcd_f (suc fuel) a zero = a
gcd_f (suc fuel) a (suc b) = gcd_f fuel (suc b) (a % suc b)

-- gcd a 0 is a, and gcd a b is gcd b (a mod b)
unfoldable pub gcd_of : ℕ → ℕ → ℕ
gcd_of a b = gcd_f b a b

-- the least common multiple
unfoldable pub lcm_of : ℕ → ℕ → ℕ
lcm_of a b = a / gcd_of a b * b
