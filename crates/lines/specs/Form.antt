-- The lines of a text: their form, the first bad one, and the numbers that stand in them.
use Rattle.std.specs.Prelude.{Bool, true, false, List, [], ◌∷◌, ◌++◌, ℕ, suc, ◌*◌, eqb, ltb, length, take}
use Rattle.basics.specs.Choose.{both, choose}
use Rattle.basics.specs.Lists.{padded}
use Rattle.model.specs.Flows.{per_flow}
use Rattle.words.specs.Bytes.{bytes, feed}
use Rattle.records.specs.Records.{split_by, is_record, numbers_in}

-- ---- form

-- the most bytes of a text
abbrev pub limit : ℕ
limit = 8192

-- line 1 is a mesh line of four numbers, line 2 a search line of two, every further line a flow line of a flow's numbers
unfoldable pub good_line : ℕ → List ℕ → Bool
good_line n line =
    choose (eqb n 1) (is_record (bytes "mesh") 4 line) (choose (eqb n 2) (is_record (bytes "search") 2 line) (is_record (bytes "flow") per_flow line))

-- the number of the first bad line, else 0, of parts that begin with line n. Each part but the last is a line that its line feed ended;
-- nothing may stand behind the last line feed, and lines 1 and 2 may not be absent
unfoldable pub bad_line : ℕ → List (List ℕ) → ℕ
bad_line n [] = 0
bad_line n (part ∷ []) = choose (both (eqb (length part) 0) (ltb 2 n)) 0 n
bad_line n (part ∷ next ∷ parts) = elim (good_line n part) [ true ↦ bad_line (suc n) (next ∷ parts) | false ↦ n ]

-- each line ends in a line feed
unfoldable pub parts_of : List ℕ → List (List ℕ)
parts_of text = split_by feed text

-- ---- numbers

-- the numbers of all lines, one after the other
unfoldable pub all_numbers : List (List ℕ) → List ℕ
all_numbers [] = []
all_numbers (part ∷ parts) = numbers_in part ++ all_numbers parts

-- 65 flows are enough to be refused: no more are kept
abbrev pub most_kept : ℕ
most_kept = 65

-- how many numbers they have
abbrev pub kept_numbers : ℕ
kept_numbers = per_flow * most_kept

-- the first numbers of the flows, as many as are kept
unfoldable pub flows_kept : List ℕ → List ℕ
flows_kept numbers = padded kept_numbers 0 (take kept_numbers numbers)
