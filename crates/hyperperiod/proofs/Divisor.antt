-- The greatest common divisor and the least common multiple are what their names say.
-- In order: the two equations of `gcd_of`; an induction along its calls; that it divides both numbers and is the greatest;
-- then `lcm_of`: its product with the divisor, that it is a multiple of both numbers, the least, and positive.
use mathlib.Core.Path.{◌≡◌, refl, ◌∙◌, ap}
use Prim.Native.Nat.{ℕ, zero, suc, ◌*◌, ◌/◌, ◌%◌, ◌≤◌, ◌<◌, ◌∣◌}
use native.Mathlib.Nat.{one-mul, mul_assoc, mul_comm, mul_right_comm, mod-lt, mod_def, mul-sub, mul-pos, dvd_refl, dvd-zero, dvd-sub, dvd-mod_iff, dvd-mul_left, dvd-mul_right, dvd-mul_right_of_dvd, mul-dvd-mul_left, mul-dvd-mul_right, dvd_of_mul-dvd-mul_right, div-mul_cancel, pos_of_dvd_of_pos}
use native.Mathlib.Omega.{arith}
use Rattle.hyperperiod.specs.Divisor.{gcd_f, gcd_of, lcm_of}

-- ---- `gcd_of`

-- fuel never matters from the second number on
fuel : (n m a b : ℕ) → b ≤ n → b ≤ m → gcd_f n a b ≡ gcd_f m a b
unfolding gcd_f
fuel zero zero a b h k = refl
fuel zero (suc m) a zero h k = refl
fuel zero (suc m) a (suc b) h k = absurd (omega arith)
fuel (suc n) zero a zero h k = refl
fuel (suc n) zero a (suc b) h k = absurd (omega arith)
fuel (suc n) (suc m) a zero h k = refl
fuel (suc n) (suc m) a (suc b) h k =
    let l : a % suc b < suc b = mod-lt a (omega arith) in fuel n m (suc b) (a % suc b) (omega arith) (omega arith)

-- gcd a 0 is a
pub gcd_zero : (a : ℕ) → gcd_of a 0 ≡ a
unfolding gcd_of gcd_f
gcd_zero a = refl

-- gcd a b is gcd b (a mod b)
pub gcd_step : (a b : ℕ) → 0 < b → gcd_of a b ≡ gcd_of b (a % b)
unfolding gcd_of gcd_f
gcd_step a zero h = absurd (omega arith)
gcd_step a (suc b) h = let l : a % suc b < suc b = mod-lt a h in fuel b (a % suc b) (suc b) (a % suc b) (omega arith) (omega arith)

-- what holds at every pair (a, 0), and at (a, b) where it does at (b, a mod b), holds at every pair
along : (P : ℕ → ℕ → Type 0) → ((a : ℕ) → P a 0) → ((a b : ℕ) → 0 < b → P b (a % b) → P a b) → (n a b : ℕ) → b ≤ n → P a b
along P base step zero a zero h = base a
along P base step zero a (suc b) h = absurd (omega arith)
along P base step (suc n) a zero h = base a
along P base step (suc n) a (suc b) h =
    let l : a % suc b < suc b = mod-lt a (omega arith) in
    step a (suc b) (omega arith) (along P base step n (suc b) (a % suc b) (omega arith))

-- it divides both numbers
pub gcd_divides : (a b : ℕ) → (gcd_of a b ∣ a) × (gcd_of a b ∣ b)
gcd_divides a b =
    along (λ a b. (gcd_of a b ∣ a) × (gcd_of a b ∣ b))
    (λ a. rw gcd_zero (dvd_refl a, dvd-zero a))
    (λ a b h ih. rw (gcd_step a b h) ((dvd-mod_iff _ ih.0).0 ih.1, ih.0))
    b a b (omega arith)

-- what divides k times both numbers divides k times their greatest common divisor
greatest_times : (d k a b : ℕ) → d ∣ k * a → d ∣ k * b → d ∣ k * gcd_of a b
greatest_times d k a b =
    along (λ a b. d ∣ k * a → d ∣ k * b → d ∣ k * gcd_of a b)
    (λ a p q. rw gcd_zero p)
    (λ a b h ih p q. rw (gcd_step a b h) (ih q (rw (mod_def, mul-sub, ← mul_assoc) (dvd-sub d p (dvd-mul_right_of_dvd d q (a / b))))))
    b a b (omega arith)

-- every common divisor divides it
pub gcd_greatest : (d a b : ℕ) → d ∣ a → d ∣ b → d ∣ gcd_of a b
gcd_greatest d a b p q = rw one-mul at (greatest_times d 1 a b (rw one-mul p) (rw one-mul q))

-- it is positive where the first number is
pub gcd_positive : (a b : ℕ) → 0 < a → 0 < gcd_of a b
gcd_positive a b h = pos_of_dvd_of_pos (gcd_divides a b).0 h

-- ---- `lcm_of`

-- times the greatest common divisor it is the product
lcm_gcd : (a b : ℕ) → lcm_of a b * gcd_of a b ≡ a * b
unfolding lcm_of
lcm_gcd a b = mul_right_comm _ _ _ ∙ ap (λ (n : ℕ). n * b) (div-mul_cancel (gcd_of a b) (gcd_divides a b).0)

-- it is a multiple of both numbers
pub lcm_multiple : (a b : ℕ) → (a ∣ lcm_of a b) × (b ∣ lcm_of a b)
unfolding lcm_of
lcm_multiple a b =
    let g : ℕ = gcd_of a b in
    let e : a / g * b ≡ a * (b / g) =
    omega (arith, ap (λ (n : ℕ). n * (b / g)) (div-mul_cancel g (gcd_divides a b).0), ap (λ (n : ℕ). a / g * n) (div-mul_cancel g (gcd_divides a b).1)) in
    (rw e (dvd-mul_right a (b / g)), dvd-mul_left b (a / g))

-- it divides every common multiple
pub lcm_least : (m a b : ℕ) → 0 < a → a ∣ m → b ∣ m → lcm_of a b ∣ m
lcm_least m a b h p q =
    dvd_of_mul-dvd-mul_right (lcm_of a b) (gcd_positive a b h)
    (rw lcm_gcd (greatest_times (a * b) m a b (rw (mul_comm m a) (mul-dvd-mul_left b a q)) (mul-dvd-mul_right a p b)))

-- it is positive where both numbers are
pub lcm_positive : (a b : ℕ) → 0 < a → 0 < b → 0 < lcm_of a b
lcm_positive a b h k =
    pos_of_dvd_of_pos (lcm_least (a * b) a b h (dvd-mul_right a b) (dvd-mul_left b a)) (mul-pos h k)
