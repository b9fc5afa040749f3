-- Laws of windows, over start and length.
-- In order: the cycles that a window holds; then overlap: exactly where two windows of positive length hold a common cycle,
-- never where one ends at or before the other's start, and the same from either side.
use mathlib.Core.Path.{◌≡◌}
use mathlib.Core.Bool.{true, false}
use Prim.Native.Nat.{ℕ, ◌+◌, ◌-◌, ◌≤◌, ◌<◌, max}
use native.Mathlib.Omega.{arith}
use lib.Dec.{leb, ltb}
use borrow.Author.Tests.{leb-true, ltb-true, le-leb, lt-ltb, le-ltb}
use Rattle.basics.proofs.Choose.{both_pass, both_first, both_second, both_not, both_swap}
use Rattle.time.specs.Window.{holds, overlaps}

-- ---- `holds`

-- a cycle from the start on and before the end is held
pub holds_at : (s a c : ℕ) → s ≤ c → c < s + a → holds s a c ≡ true
unfolding holds
holds_at s a c h k = both_pass _ _ (le-leb s c h) (lt-ltb c (s + a) k)

-- a held cycle is at the start or after it
pub holds_from : (s a c : ℕ) → holds s a c ≡ true → s ≤ c
unfolding holds
holds_from s a c e = leb-true s c (both_first _ _ e)

-- a held cycle is before the end
pub holds_before : (s a c : ℕ) → holds s a c ≡ true → c < s + a
unfolding holds
holds_before s a c e = ltb-true c (s + a) (both_second (leb s c) _ e)

-- the first cycle of a window of positive length is held
pub holds_first : (s a : ℕ) → 0 < a → holds s a s ≡ true
holds_first s a h = holds_at s a s (omega arith) (omega arith)

-- the last cycle of a window of positive length is held
pub holds_last : (s a : ℕ) → 0 < a → holds s a (s + a - 1) ≡ true
holds_last s a h = holds_at s a (s + a - 1) (omega arith) (omega arith)

-- ---- `overlaps`

-- windows that each start before the other's end overlap
pub overlaps_at : (s a t b : ℕ) → s < t + b → t < s + a → overlaps s a t b ≡ true
unfolding overlaps
overlaps_at s a t b h k = both_pass _ _ (lt-ltb s (t + b) h) (lt-ltb t (s + a) k)

-- a longer window overlaps what a shorter one from the same start does
pub overlaps_longer : (s a a' t b : ℕ) → a ≤ a' → overlaps s a t b ≡ true → overlaps s a' t b ≡ true
unfolding overlaps
overlaps_longer s a a' t b h e =
    let later = ltb-true t (s + a) (both_second (ltb s (t + b)) _ e) in
    overlaps_at s a' t b (ltb-true s (t + b) (both_first _ _ e)) (omega arith)

-- windows that both hold a cycle overlap
pub common_overlaps : (s a t b c : ℕ) → holds s a c ≡ true → holds t b c ≡ true → overlaps s a t b ≡ true
common_overlaps s a t b c p q =
    let sc = holds_from s a c p in
    let ca = holds_before s a c p in
    let tc = holds_from t b c q in
    let cb = holds_before t b c q in
    overlaps_at s a t b (omega arith) (omega arith)

-- overlapping windows of positive length both hold the later of their starts
pub overlaps_common : (s a t b : ℕ) → 0 < a → 0 < b → overlaps s a t b ≡ true
    → (holds s a (max s t) ≡ true) × (holds t b (max s t) ≡ true)
unfolding overlaps
overlaps_common s a t b ha hb e =
    let st = ltb-true s (t + b) (both_first _ _ e) in
    let ts = ltb-true t (s + a) (both_second (ltb s (t + b)) _ e) in
    (holds_at s a (max s t) (omega arith) (omega arith), holds_at t b (max s t) (omega arith) (omega arith))

-- a window that ends at or before the start of another does not overlap it
pub before_apart : (s a t b : ℕ) → s + a ≤ t → overlaps s a t b ≡ false
unfolding overlaps
before_apart s a t b h = both_not (ltb s (t + b)) _ (le-ltb t (s + a) h)

-- touching windows do not overlap
pub touching_apart : (s a b : ℕ) → overlaps s a (s + a) b ≡ false
touching_apart s a b = before_apart s a (s + a) b (omega arith)

-- overlap is symmetric
pub overlaps_swap : (s a t b : ℕ) → overlaps s a t b ≡ overlaps t b s a
unfolding overlaps
overlaps_swap s a t b = both_swap (ltb s (t + b)) (ltb t (s + a))
