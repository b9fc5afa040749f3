-- What a text says: a mesh line, a search line, then flow lines. The whole text is read for form before anything is judged.
use Rattle.std.specs.Prelude.{Result, Ok, Err, List, [], ℕ, ◌-◌, eqb, ltb, length, get_or, drop}
use Rattle.basics.specs.Choose.{choose}
use Rattle.model.specs.declared.flows.Mesh.{Mesh}
use Rattle.records.specs.Records.{numbers_in}
use Rattle.lines.specs.Form.{limit, bad_line, parts_of, all_numbers, flows_kept}
use Rattle.reader.specs.declared.reading.Input.{Input}
use Rattle.reader.specs.declared.reading.Malformed.{Malformed}
use Rattle.reader.specs.declared.reading.Malformed.TheVariants.{OverLimit, Line}

-- columns, rows, r and flit width
unfoldable pub mesh_of : List ℕ → Mesh
mesh_of numbers = record { columns = get_or numbers 0 0; rows = get_or numbers 1 0; r = get_or numbers 2 0; flit = get_or numbers 3 0 }

-- the place that document 01 gives a malformed text: its first bad line, from 1; 0 if it is over 8,192 bytes
unfoldable pub malformed_place : Malformed → ℕ
malformed_place OverLimit = 0
malformed_place (Line n) = n

-- a well-formed text: its mesh line, its search line, its flow lines, and the empty part behind the last line feed
unfoldable pub well_formed : List (List ℕ) → Input
well_formed parts = record {
  mesh = mesh_of (numbers_in (get_or parts 0 []));
  pruning = get_or (numbers_in (get_or parts 1 [])) 0 0;
  threshold = get_or (numbers_in (get_or parts 1 [])) 1 0;
  numbers = flows_kept (all_numbers (drop 2 parts));
  flows = length parts - 3;
}

-- the parts of a text, judged for form: what they say, or the first bad line
unfoldable pub input_in : List (List ℕ) → Result Input Malformed
input_in parts = choose (eqb (bad_line 1 parts) 0) (Ok (well_formed parts)) (Err (Line (bad_line 1 parts)))

-- what a text says; over 8,192 bytes it is malformed
unfoldable pub input_of : List ℕ → Result Input Malformed
input_of text = choose (ltb limit (length text)) (Err OverLimit) (input_in (parts_of text))
