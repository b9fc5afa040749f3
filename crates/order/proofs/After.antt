-- The first start after a time among starts that rise: what stands before it and from it on.
use mathlib.Core.Path.{◌≡◌}
use Prim.Native.Nat.{ℕ, ◌≤◌, ◌<◌}
use native.Mathlib.Omega.{arith}
use lib.Dec.{ltb}
use borrow.Author.Tests.{ltb-true, ltb-false}
use Rattle.basics.specs.First.{first}
use Rattle.basics.proofs.First.{first_le, first_passes, first_least}

module _ (start : ℕ → ℕ) (count time at : ℕ) (e : at ≡ first (λ j. ltb time (start j)) count) where
  -- it is within the count
  pub after_within : at ≤ count
  after_within = omega (arith, e, first_le (λ j. ltb time (start j)) count)

  -- every start before it is at the time or before it
  pub after_below : (j : ℕ) → j < at → start j ≤ time
  after_below j h = ltb-false time (start j) (first_least (λ j. ltb time (start j)) count j (omega (arith, e)))

-- every start from it on is after the time
pub after_above : (start : ℕ → ℕ) (count time at : ℕ) → at ≡ first (λ j. ltb time (start j)) count
    → ((i j : ℕ) → i ≤ j → j < count → start i ≤ start j) → (j : ℕ) → at ≤ j → j < count → time < start j
after_above start count time at e rising j h k =
    let f : ℕ = first (λ j. ltb time (start j)) count in
    let p = ltb-true time (start f) (first_passes (λ j. ltb time (start j)) count (omega (arith, e))) in
    let r = rising f j (omega (arith, e)) k in
    omega arith
