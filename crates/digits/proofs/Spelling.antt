-- Laws of a field as a number, as the code meets them. In order: the digits, as `all` tests them; when a field is formed and when not; a
-- byte more of the digits and of the value; then `number_of` as the reader answers it.
use mathlib.Core.Path.{◌≡◌, refl, sym, ◌∙◌}
use mathlib.Core.Bool.{Bool, true, false, not, ◌&&◌}
use mathlib.Core.List.{List, [], ◌∷◌}
use Prim.Native.Nat.{ℕ, ◌+◌, ◌-◌, ◌*◌, ◌≤◌, ◌<◌}
use native.Mathlib.Omega.{arith}
use borrow.Author.Tests.{le-leb, lt-leb, leb-true, leb-false, eq-eqb, ne_eqb}
use Rattle.std.specs.Prelude.{Some, None}
use Rattle.std.specs.Bool.{then_some}
use Rattle.std.specs.List.{list_all}
use Rattle.std.specs.Char.{is_ascii_digit}
use lib.Dec.{leb, eqb}
use lib.ListN.{length, get_or, drop}
use Rattle.std.proofs.lemmas.List.{at_drop_more, at_drop_all}
use Rattle.basics.specs.Choose.{both, either, choose}
use Rattle.basics.proofs.Choose.{both_first, both_second, both_not, chosen_none, chosen_some}
use Rattle.digits.specs.Numbers.{is_digit, all_digits, no_leading_zero, is_formed, value_from, value_of, is_number, number_of}

-- ---- the digits

-- every byte is a digit, as `all` says it
pub digits_all : (field : List ℕ) → list_all is_ascii_digit field ≡ all_digits field
unfolding all_digits is_digit
digits_all [] = refl
digits_all (byte ∷ field) = rw (digits_all field) (go (leb 48 byte) (leb byte 57))
  where
    go : (a b : Bool) → (a && b) && all_digits field ≡ both (both a b) (all_digits field)
    go true true = refl
    go true false = refl
    go false b = refl

-- ---- `is_formed`

-- a field of no digits or too many is not formed
pub not_sized : (most : ℕ) (field : List ℕ) → (1 ≤ length field → length field ≤ most → ⊥) → is_formed most field ≡ false
unfolding is_formed
not_sized most field h = go (leb 1 (length field)) refl (leb (length field) most) refl
  where
    go : (a : Bool) → leb 1 (length field) ≡ a → (b : Bool) → leb (length field) most ≡ b → both (both a b) (both (no_leading_zero field) (all_digits field)) ≡ false
    go true e true f = absurd (h (leb-true 1 (length field) e) (leb-true (length field) most f))
    go true e false f = refl
    go false e b f = refl

-- nor is one that begins with 0 and goes on
pub zero_led : (most : ℕ) (field : List ℕ) → 1 < length field → get_or field 0 0 ≡ 48 → is_formed most field ≡ false
unfolding is_formed no_leading_zero
zero_led most field h e = rw (lt-leb (length field) 1 h, eq-eqb (get_or field 0 0) 48 e) (both_not (both (leb 1 (length field)) (leb (length field) most)) false refl)

-- any other is where its bytes are digits
pub well_led : (most : ℕ) (field : List ℕ) → 1 ≤ length field → length field ≤ most → (1 < length field → get_or field 0 0 ≡ 48 → ⊥)
    → is_formed most field ≡ all_digits field
unfolding is_formed no_leading_zero
well_led most field h k n = rw (le-leb 1 (length field) h, le-leb (length field) most k) (go (leb (length field) 1) refl)
  where
    go : (t : Bool) → leb (length field) 1 ≡ t → both (either t (not (eqb (get_or field 0 0) 48))) (all_digits field) ≡ all_digits field
    go true e = refl
    go false e = rw (ne_eqb (get_or field 0 0) 48 (n (leb-false (length field) 1 e)))

-- a byte between is one
pub within_digit : (byte : ℕ) → 48 ≤ byte → byte ≤ 57 → is_digit byte ≡ true
unfolding is_digit
within_digit byte h k = rw (le-leb 48 byte h, le-leb byte 57 k)

-- a digit is not below 0
pub digit_low : (byte : ℕ) → is_digit byte ≡ true → 48 ≤ byte
unfolding is_digit
digit_low byte e = leb-true 48 byte (both_first (leb 48 byte) (leb byte 57) e)

-- of a formed field the bytes are digits
pub formed_digits : (most : ℕ) (field : List ℕ) → is_formed most field ≡ true → all_digits field ≡ true
unfolding is_formed
formed_digits most field e =
    both_second (no_leading_zero field) (all_digits field)
    (both_second (both (leb 1 (length field)) (leb (length field) most)) (both (no_leading_zero field) (all_digits field)) e)

-- the value with a byte more
pub value_next : (field : List ℕ) (i value : ℕ) → i < length field
    → value_from value (drop i field) ≡ value_from (value * 10 + (get_or field i 0 - 48)) (drop (i + 1) field)
unfolding value_from
value_next field i value h = at_drop_more (value_from value) field i 0 h

-- past the last byte the value is whole
pub value_end : (field : List ℕ) (i value : ℕ) → length field ≤ i → value_from value (drop i field) ≡ value
unfolding value_from
value_end field i value h = at_drop_all (value_from value) field i h

-- where the bytes from a place on are digits, this one is, and those behind it are
pub digits_next : (field : List ℕ) (i : ℕ) → i < length field → all_digits (drop i field) ≡ true
    → (48 ≤ get_or field i 0) × (all_digits (drop (i + 1) field) ≡ true)
unfolding all_digits
digits_next field i h e =
    let f : both (is_digit (get_or field i 0)) (all_digits (drop (i + 1) field)) ≡ true = sym (at_drop_more all_digits field i 0 h) ∙ e in (
      digit_low (get_or field i 0) (both_first (is_digit (get_or field i 0)) (all_digits (drop (i + 1) field)) f),
      both_second (is_digit (get_or field i 0)) (all_digits (drop (i + 1) field)) f,
    )

-- digits more make no smaller value
pub value_grows : (value : ℕ) (field : List ℕ) → value ≤ value_from value field
unfolding value_from
value_grows value [] = omega arith
value_grows value (byte ∷ field) = omega (arith, value_grows (value * 10 + (byte - 48)) field)

-- ---- `number_of`

-- a field that is not formed is no number
pub not_formed : (digits most : ℕ) (field : List ℕ) → is_formed digits field ≡ false → number_of digits most field ≡ None
unfolding number_of is_number
not_formed digits most field e = rw e

-- a value above the most is no number
pub number_above : (digits most : ℕ) (field : List ℕ) → most < value_of field → number_of digits most field ≡ None
unfolding number_of is_number
number_above digits most field h = rw (both_not (is_formed digits field) (leb (value_of field) most) (lt-leb (value_of field) most h))

-- a formed field is its value where that is no more than the most
pub number_formed : (digits most value : ℕ) (field : List ℕ) → is_formed digits field ≡ true → value_of field ≡ value
    → then_some (leb value most) value ≡ number_of digits most field
unfolding number_of is_number
number_formed digits most value field e v = rw (e, v) (go (leb value most))
  where
    go : (t : Bool) → then_some t value ≡ choose t (Some value) None
    go true = refl
    go false = refl

-- what is no number fails the test
pub bad_number : (digits most : ℕ) (field : List ℕ) → number_of digits most field ≡ None → is_number digits most field ≡ false
unfolding number_of
bad_number digits most field = chosen_none (is_number digits most field) (value_of field)

-- what is a number passes the test, and is its value
pub good_number : (digits most value : ℕ) (field : List ℕ) → number_of digits most field ≡ Some value
    → (is_number digits most field ≡ true) × (value_of field ≡ value)
unfolding number_of
good_number digits most value field = chosen_some (is_number digits most field) (value_of field) value

-- a number is no more than the most
pub number_most : (digits most value : ℕ) (field : List ℕ) → number_of digits most field ≡ Some value → value ≤ most
unfolding is_number
number_most digits most value field h =
    let good = good_number digits most value field h in
    omega (arith, leb-true (value_of field) most (both_second (is_formed digits field) (leb (value_of field) most) good.0), good.1)
