-- Blocks: numbers cut into blocks of one length, as cycles are into hyper-periods and periods, and a flow's packets into those
-- of each hyper-period. A number is in one block only, at one place of it.
use mathlib.Core.Path.{◌≡◌, ap}
use Prim.Native.Nat.{ℕ, ◌+◌, ◌*◌, ◌≤◌, ◌<◌}
use native.Mathlib.Nat.{le_antisymm, lt_of_not-le, mul-le-mul_right}
use native.Mathlib.Decide.{dec_le}
use native.Mathlib.Omega.{arith}

-- a number in block i and in block j has i at most j
block_le : (n i j c : ℕ) → i * n ≤ c → c < j * n + n → i ≤ j
block_le n i j c h k =
    elim (dec_le i j) [ yes l ↦ l | no l ↦ absurd (omega (arith, mul-le-mul_right n (lt_of_not-le l))) ]

-- a number is in one block only
pub one_block : (n i j c : ℕ) → i * n ≤ c → c < i * n + n → j * n ≤ c → c < j * n + n → i ≡ j
one_block n i j c a b d e = le_antisymm (block_le n i j c a e) (block_le n j i c d b)

-- numbers that are equal are in one block, at one place of it
pub one_place : (n i j a b : ℕ) → a < n → b < n → i * n + a ≡ j * n + b → (i ≡ j) × (a ≡ b)
one_place n i j a b h k e =
    let s = one_block n i j (i * n + a) (omega arith) (omega arith) (omega arith) (omega arith) in
    (s, omega (arith, ap (λ (x : ℕ). x * n) s))
