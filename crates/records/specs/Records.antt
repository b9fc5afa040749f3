-- Lines and fields: a text split at a byte, and a line as a record, which is a word with numbers behind it.
use Rattle.std.specs.Prelude.{Bool, true, false, ℕ, zero, suc, ◌+◌, eqb, ltb, length, get_or, drop, Option, Some, None}
use mathlib.Core.List.{List, [], ◌∷◌, map, tail}
use Rattle.basics.specs.Choose.{both, choose}
use Rattle.digits.specs.Numbers.{is_number, value_of}
use Rattle.words.specs.Bytes.{tab, same_bytes}

-- a byte in front of the first part
unfoldable pub onto : ℕ → List (List ℕ) → List (List ℕ)
onto x [] = (x ∷ []) ∷ []
onto x (part ∷ parts) = (x ∷ part) ∷ parts

-- the parts between the places of a byte: always one part more than there are such places
unfoldable pub split_by : ℕ → List ℕ → List (List ℕ)
split_by b [] = [] ∷ []
split_by b (x ∷ xs) = elim (eqb x b) [ true ↦ [] ∷ split_by b xs | false ↦ onto x (split_by b xs) ]

-- the place of the first such byte, else the length
unfoldable pub index_of : ℕ → List ℕ → ℕ
index_of b [] = 0
index_of b (x ∷ xs) = elim (eqb x b) [ true ↦ 0 | false ↦ suc (index_of b xs) ]

-- the place of the first such byte from a place on
unfoldable pub place_from : ℕ → List ℕ → ℕ → Option ℕ
place_from b text from = choose (ltb (index_of b (drop from text)) (length (drop from text))) (Some (from + index_of b (drop from text))) None

-- the largest number that a field may hold
abbrev pub largest : ℕ
largest = 4294967295

-- exactly so many fields, each a number of 1 to 10 digits, at most 4,294,967,295
unfoldable pub are_numbers : ℕ → List (List ℕ) → Bool
are_numbers zero [] = true
are_numbers zero (field ∷ fields) = false
are_numbers (suc n) [] = false
are_numbers (suc n) (field ∷ fields) = both (is_number 10 largest field) (are_numbers n fields)

-- fields are parted by one tab
unfoldable pub fields_of : List ℕ → List (List ℕ)
fields_of line = split_by tab line

-- a line is the record of a word and so many numbers
unfoldable pub is_record : List ℕ → ℕ → List ℕ → Bool
is_record word n line = both (same_bytes (get_or (fields_of line) 0 []) word) (are_numbers n (tail (fields_of line)))

-- the numbers of a record, which stand behind its word
unfoldable pub numbers_in : List ℕ → List ℕ
numbers_in line = map value_of (tail (fields_of line))

-- the numbers of a line that is the record of a word and so many numbers
unfoldable pub record_of : List ℕ → ℕ → List ℕ → Option (List ℕ)
record_of word n line = choose (is_record word n line) (Some (numbers_in line)) None
