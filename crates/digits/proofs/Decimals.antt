-- Laws of a number in digits. In order: the digits that the kit's `io::decimal` writes are those of the definition, and how many they are;
-- then that a number printed is formed, spells itself, and so reads back as itself.
use mathlib.Core.Path.{◌≡◌, refl, sym, ◌∙◌, ap}
use mathlib.Core.Bool.{Bool, true, false}
use mathlib.Core.List.{List, [], ◌∷◌, ◌++◌}
use Prim.Native.Nat.{ℕ, zero, suc, ◌+◌, ◌-◌, ◌*◌, ◌/◌, ◌%◌, ◌^◌, ◌≤◌, ◌<◌}
use native.Mathlib.Nat.{pow-succ', pow-le-pow_right, mod-lt, mod-eq_of_lt, div-add-mod', lt_of_not-le}
use native.Mathlib.Decide.{dec_le}
use native.Mathlib.Omega.{arith}
use borrow.Author.Tests.{lt-ltb, le-ltb, ltb-true, ltb-false, le-leb, ne_eqb, leb-false}
use lib.Dec.{ltb, leb}
use lib.ListN.{length, get_or, length-append, get_or-append}
use Rattle.io.specs.Digits.{hex_digit_ascii, last_digits, IsDigitCount}
use Rattle.basics.specs.Choose.{both}
use Rattle.digits.specs.Numbers.{is_digit, all_digits, no_leading_zero, is_formed, value_from, value_of, number_of, decimal_within, decimal}
use Rattle.std.specs.Prelude.{Some}
use Rattle.digits.proofs.Spelling.{within_digit, number_formed}

-- ---- the digits by their steps

-- below 10 one digit
one_digit : (steps n : ℕ) → n < 10 → decimal_within (suc steps) n ≡ (48 + n) ∷ []
unfolding decimal_within
one_digit steps n h = rw (lt-ltb n 10 h, decimal_within)

-- else those of the tenth, and the last
more_digits : (steps n : ℕ) → 10 ≤ n → decimal_within (suc steps) n ≡ decimal_within steps (n / 10) ++ ((48 + n % 10) ∷ [])
unfolding decimal_within
more_digits steps n h = rw (le-ltb n 10 h, decimal_within)

-- ---- what `io::decimal` writes

-- the code of a digit
glyph_is : (d : ℕ) → d < 10 → hex_digit_ascii d ≡ 48 + d
glyph_is d h = rw (lt-ltb d 10 h)

-- a power is above its exponent
above_exponent : (k : ℕ) → k < 10 ^ k
above_exponent zero = omega arith
above_exponent (suc k) = omega (arith, above_exponent k, pow-succ' 10 k)

-- the last digits of a number that has no more are its digits
spells : (k steps n : ℕ) → k < steps → n < 10 ^ suc k → (0 < k → 10 ^ k ≤ n) → last_digits 10 (suc k) n ≡ decimal_within steps n
spells k zero n h l m = absurd (omega arith)
spells zero (suc steps) n h l m =
    let small : n < 10 = omega (arith, pow-succ' 10 0) in
    ap (λ (d : ℕ). hex_digit_ascii d ∷ []) (mod-eq_of_lt small) ∙ ap (λ (d : ℕ). d ∷ []) (glyph_is n small) ∙ sym (one_digit steps n small)
spells (suc k) (suc steps) n h l m =
    let large : 10 ≤ n = omega (arith, m (omega arith), pow-succ' 10 k, above_exponent k) in
    let tenth = spells k steps (n / 10) (omega arith) (omega (arith, pow-succ' 10 (suc k))) (λ (z : 0 < k). omega (arith, m (omega arith), pow-succ' 10 k)) in
    ap (λ (d : ℕ). last_digits 10 (suc k) (n / 10) ++ (d ∷ [])) (glyph_is (n % 10) (mod-lt n (omega arith)))
    ∙ ap (λ (l : List ℕ). l ++ ((48 + n % 10) ∷ [])) tenth
    ∙ sym (more_digits steps n large)

-- the fewest digits that hold a number are its digits
pub digits_are : (n k : ℕ) → IsDigitCount 10 1 n k → last_digits 10 k n ≡ decimal n
unfolding decimal
digits_are n zero f = absurd (omega (arith, f.0))
digits_are n (suc k) f =
    let least : 0 < k → 10 ^ k ≤ n = λ (h : 0 < k). (rw (let e : suc k - 1 ≡ k = omega arith in e) at (f.2 (omega arith))) in
    spells k (suc n) n (below (dec_le 1 k) least) f.1 least
  where
    below : Dec (1 ≤ k) → (0 < k → 10 ^ k ≤ n) → k < suc n
    below (yes h) least = omega (arith, least h, above_exponent k)
    below (no h) least = omega (arith, lt_of_not-le h)

-- a number of 64 bits has 20 digits at most
pub digits_most : (n k : ℕ) → n < 18446744073709551616 → IsDigitCount 10 1 n k → k ≤ 20
digits_most n k h f = go (dec_le k 20)
  where
    go : Dec (k ≤ 20) → k ≤ 20
    go (yes l) = l
    go (no l) =
        let more = lt_of_not-le l in
        let large : 10 ^ 20 ≤ 10 ^ (k - 1) = pow-le-pow_right {n = 10} (omega arith) {i = 20} {j = k - 1} (omega arith) in
        let low : 10 ^ (k - 1) ≤ n = f.2 (omega arith) in
        absurd (omega arith)

-- ---- a number printed

-- all are digits
all_digits_append : (xs : List ℕ) (b : ℕ) → all_digits xs ≡ true → is_digit b ≡ true → all_digits (xs ++ (b ∷ [])) ≡ true
unfolding all_digits
all_digits_append [] b e f = rw f
all_digits_append (x ∷ xs) b e f = go (is_digit x) e (all_digits_append xs b)
  where
    go : (t : Bool) → both t (all_digits xs) ≡ true → (all_digits xs ≡ true → is_digit b ≡ true → all_digits (xs ++ (b ∷ [])) ≡ true)
        → both t (all_digits (xs ++ (b ∷ []))) ≡ true
    go true g ih = ih g f
    go false g ih = g

printed_digits : (steps n : ℕ) → all_digits (decimal_within steps n) ≡ true
unfolding decimal_within all_digits
printed_digits zero n = refl
printed_digits (suc steps) n = go (ltb n 10) refl (printed_digits steps (n / 10))
  where
    go : (t : Bool) → ltb n 10 ≡ t → all_digits (decimal_within steps (n / 10)) ≡ true → all_digits (decimal_within (suc steps) n) ≡ true
    go true e ih =
        let h = ltb-true n 10 e in
        rw (one_digit steps n h, within_digit (48 + n) (omega arith) (omega arith))
    go false e ih =
        rw (more_digits steps n (ltb-false n 10 e))
        (all_digits_append (decimal_within steps (n / 10)) (48 + n % 10) ih (within_digit (48 + n % 10) (omega arith) (omega (arith, mod-lt n (let z : 0 < 10 = omega arith in z)))))

-- all bytes of a number printed are digits
pub decimal_digits : (n : ℕ) → all_digits (decimal n) ≡ true
unfolding decimal
decimal_digits n = printed_digits (suc n) n

-- a digit more behind a value
value_append : (v : ℕ) (xs : List ℕ) (b : ℕ) → value_from v (xs ++ (b ∷ [])) ≡ value_from v xs * 10 + (b - 48)
unfolding value_from
value_append v [] b = refl
value_append v (x ∷ xs) b = value_append (v * 10 + (x - 48)) xs b

-- it spells the number
printed_value : (steps n : ℕ) → n < 10 ^ steps → value_from 0 (decimal_within steps n) ≡ n
unfolding decimal_within value_from
printed_value zero n h = omega (arith, h)
printed_value (suc steps) n h = go (ltb n 10) refl (printed_value steps (n / 10) (omega (arith, pow-succ' 10 steps)))
  where
    go : (t : Bool) → ltb n 10 ≡ t → value_from 0 (decimal_within steps (n / 10)) ≡ n / 10 → value_from 0 (decimal_within (suc steps) n) ≡ n
    go true e ih = ap (value_from 0) (one_digit steps n (ltb-true n 10 e)) ∙ (let z : 0 * 10 + (48 + n - 48) ≡ n = omega arith in z)
    go false e ih =
        ap (value_from 0) (more_digits steps n (ltb-false n 10 e))
        ∙ value_append 0 (decimal_within steps (n / 10)) (48 + n % 10)
        ∙ omega (arith, ih, div-add-mod' n 10)

-- it has as many digits as the number needs
printed_length : (steps most n : ℕ) → n < 10 ^ suc most → length (decimal_within steps n) ≤ suc most
unfolding decimal_within
printed_length zero most n h = omega arith
printed_length (suc steps) zero n h = rw (one_digit steps n (omega (arith, pow-succ' 10 0))) (omega arith)
printed_length (suc steps) (suc most) n h = go (ltb n 10) refl (printed_length steps most (n / 10) (omega (arith, pow-succ' 10 (suc most))))
  where
    go : (t : Bool) → ltb n 10 ≡ t → length (decimal_within steps (n / 10)) ≤ suc most → length (decimal_within (suc steps) n) ≤ suc (suc most)
    go true e ih = rw (one_digit steps n (ltb-true n 10 e)) (omega arith)
    go false e ih =
        rw (more_digits steps n (ltb-false n 10 e)) (omega (arith, length-append (decimal_within steps (n / 10)) ((48 + n % 10) ∷ [])))

-- it is not empty, and unless it is 0 it does not begin with 0
record Begins (n : ℕ) (field : List ℕ) : Type 0 where
  pub some : 1 ≤ length field
  pub nonzero : 0 < n → get_or field 0 0 ≡ 48 → ⊥
  pub single : n < 10 → length field ≤ 1

printed_begins : (steps n : ℕ) → n < 10 ^ suc steps → Begins n (decimal_within (suc steps) n)
printed_begins zero n h =
    let small : n < 10 = omega (arith, pow-succ' 10 0) in
    rw (one_digit 0 n small) (record { some = omega arith; nonzero = λ (z : 0 < n) (e : 48 + n ≡ 48). omega arith; single = λ (z : n < 10). omega arith })
printed_begins (suc steps) n h = go (ltb n 10) refl (printed_begins steps (n / 10) (omega (arith, pow-succ' 10 (suc steps))))
  where
    go : (t : Bool) → ltb n 10 ≡ t → Begins (n / 10) (decimal_within (suc steps) (n / 10)) → Begins n (decimal_within (suc (suc steps)) n)
    go true e ih =
        rw (one_digit (suc steps) n (ltb-true n 10 e))
        (record { some = omega arith; nonzero = λ (z : 0 < n) (f : 48 + n ≡ 48). omega arith; single = λ (z : n < 10). omega arith })
    go false e ih =
        let large = ltb-false n 10 e in
        let front = decimal_within (suc steps) (n / 10) in
        let last : List ℕ = (48 + n % 10) ∷ [] in
        rw (more_digits (suc steps) n large)
        (record {
          some = omega (arith, ih.some, length-append front last);
          nonzero = λ (z : 0 < n) (f : get_or (front ++ last) 0 0 ≡ 48). ih.nonzero (omega arith) (sym (get_or-append front last 0 0 ih.some) ∙ f);
          single = λ (z : n < 10). absurd (omega arith);
        })

-- it is formed
printed_formed : (most n : ℕ) → n < 10 ^ suc most → is_formed (suc most) (decimal n) ≡ true
unfolding is_formed no_leading_zero decimal
printed_formed most n h =
    let begins = printed_begins n n (omega (arith, above_exponent n, pow-succ' 10 n)) in
    rw (le-leb 1 (length (decimal_within (suc n) n)) begins.some, le-leb (length (decimal_within (suc n) n)) (suc most) (printed_length (suc n) most n h), printed_digits (suc n) n)
    (go (leb (length (decimal_within (suc n) n)) 1) refl begins)
  where
    go : (t : Bool) → leb (length (decimal_within (suc n) n)) 1 ≡ t → Begins n (decimal_within (suc n) n) → both (no_leading_zero (decimal_within (suc n) n)) true ≡ true
    go true e b = rw e
    go false e b = rw (e, ne_eqb (get_or (decimal_within (suc n) n) 0 0) 48 (b.nonzero (positive (dec_le n 9) b)))
      where
        positive : Dec (n ≤ 9) → Begins n (decimal_within (suc n) n) → 0 < n
        positive (yes l) b = absurd (omega (arith, b.single (omega arith), leb-false (length (decimal_within (suc n) n)) 1 e))
        positive (no l) b = omega (arith, lt_of_not-le l)

-- a number printed reads back as itself
pub reads_back : (most limit n : ℕ) → n ≤ limit → limit < 10 ^ suc most → number_of (suc most) limit (decimal n) ≡ Some n
unfolding decimal value_of
reads_back most limit n h k =
    sym (number_formed (suc most) limit n (decimal n) (printed_formed most n (omega arith))
    (printed_value (suc n) n (omega (arith, above_exponent n, pow-succ' 10 n)))) ∙ rw (le-leb n limit h)
