-- The reader's own steps, as its inner functions promise them: a line at a place of the text, a flow's numbers stored, the flow lines.
use Rattle.std.specs.Prelude.{List, ℕ, ◌+◌, ◌-◌, ◌*◌, eqb, ltb, length, take, drop, Option, Some, None, Result, Ok, Err}
use Rattle.std.proofs.Math.Seq.{paste}
use Rattle.basics.specs.Choose.{both, choose}
use Rattle.model.specs.Flows.{per_flow}
use Rattle.words.specs.Bytes.{feed}
use Rattle.records.specs.Records.{index_of, is_record, numbers_in}
use Rattle.lines.specs.Form.{bad_line, all_numbers, most_kept, flows_kept}
use Rattle.lines.specs.declared.taking.Line.{Line}
use Rattle.lines.specs.declared.flows.Lines.{Lines}
use Rattle.lines.specs.declared.flows.BadLine.{BadLine}

-- the line at a place of the text, without its line feed
unfoldable pub line_from : List ℕ → ℕ → List ℕ
line_from text at = take (index_of feed (drop at text)) (drop at text)

-- the place of the line feed that ends it, else the text's length
unfoldable pub feed_from : List ℕ → ℕ → ℕ
feed_from text at = at + index_of feed (drop at text)

-- a good line with its n numbers, and the place behind it
unfoldable pub good_from : (n : ℕ) → List ℕ → ℕ → Line n
good_from n text at = record { numbers = numbers_in (line_from text at); next = feed_from text at + 1 }

-- the line at a place, as the record of a word and so many numbers
unfoldable pub line_at : List ℕ → (n : ℕ) → List ℕ → ℕ → Option (Line n)
line_at word n text at =
    choose (both (ltb (feed_from text at) (length text)) (is_record word n (line_from text at))) (Some (good_from n text at)) None

-- the array with a flow's numbers in their place, as long as there is room for the flow
unfoldable pub stored_at : List ℕ → ℕ → List ℕ → List ℕ
stored_at numbers count flow = choose (ltb count most_kept) (paste numbers (per_flow * count) flow per_flow) numbers

-- one flow line more: a flow's numbers in their place, and the line counted
unfoldable pub with_line : Lines → List ℕ → Lines
with_line lines flow = record { numbers = stored_at lines.numbers lines.count flow; count = lines.count + 1 }

-- the flow lines of a text from line 3 on: their numbers and how many they are, or the first bad line
unfoldable pub flow_lines : List (List ℕ) → Result Lines BadLine
flow_lines parts =
    choose (eqb (bad_line 3 parts) 0)
    (Ok (record { numbers = flows_kept (all_numbers parts); count = length parts - 1 }))
    (Err (record { line = bad_line 3 parts }))
