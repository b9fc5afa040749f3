-- Numbers in digits: which fields are numbers, what they spell, and how a number is printed.
use Rattle.std.specs.Prelude.{Bool, true, false, not, List, [], ◌∷◌, ◌++◌, ℕ, zero, suc, ◌+◌, ◌-◌, ◌*◌, ◌/◌, ◌%◌, leb, ltb, eqb, length, get_or, Option, Some, None}
use Rattle.basics.specs.Choose.{both, either, choose}

-- ---- reading

-- a digit, 0 to 9
unfoldable pub is_digit : ℕ → Bool
is_digit byte = both (leb 48 byte) (leb byte 57)

-- every byte is a digit
unfoldable pub all_digits : List ℕ → Bool
all_digits [] = true
all_digits (byte ∷ field) = both (is_digit byte) (all_digits field)

-- no leading zero unless it is 0 itself
unfoldable pub no_leading_zero : List ℕ → Bool
no_leading_zero field = either (leb (length field) 1) (not (eqb (get_or field 0 0) 48))

-- 1 to so many digits, no leading zero
unfoldable pub is_formed : ℕ → List ℕ → Bool
is_formed digits field = both (both (leb 1 (length field)) (leb (length field) digits)) (both (no_leading_zero field) (all_digits field))

-- the number that digits spell behind those of a number
unfoldable pub value_from : ℕ → List ℕ → ℕ
value_from value [] = value
value_from value (byte ∷ field) = value_from (value * 10 + (byte - 48)) field

-- the number that digits spell
unfoldable pub value_of : List ℕ → ℕ
value_of field = value_from 0 field

-- a number: so many digits, and no more than the most
unfoldable pub is_number : ℕ → ℕ → List ℕ → Bool
is_number digits most field = both (is_formed digits field) (leb (value_of field) most)

-- the number of a field, or that it is none
unfoldable pub number_of : ℕ → ℕ → List ℕ → Option ℕ
number_of digits most field = choose (is_number digits most field) (Some (value_of field)) None

-- ---- printing

-- the digits of a number, given as many steps as there are digits: below 10 one digit, else those of the tenth and the last
unfoldable pub decimal_within : ℕ → ℕ → List ℕ
decimal_within zero n = []
decimal_within (suc steps) n = elim (ltb n 10) [ true ↦ (48 + n) ∷ [] | false ↦ decimal_within steps (n / 10) ++ ((48 + n % 10) ∷ []) ]

-- the digits of a number, with no leading zero
unfoldable pub decimal : ℕ → List ℕ
decimal n = decimal_within (suc n) n
