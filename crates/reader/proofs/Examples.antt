-- Whole texts: Case A as document 01 has it, read; and texts with a bad line.
use mathlib.Core.Path.{◌≡◌, refl}
use mathlib.Core.List.{List, [], ◌∷◌, map}
use Prim.Native.Nat.{ℕ}
use Prim.Native.String.{String}
use Rattle.std.specs.Prelude.{Ok}
use Rattle.basics.specs.Lists.{padded}
use Rattle.digits.specs.Numbers.{is_digit, all_digits, no_leading_zero, is_formed, value_from, value_of, is_number}
use Rattle.words.specs.Bytes.{bytes, same_bytes}
use Rattle.records.specs.Records.{onto, split_by, are_numbers, fields_of, is_record, numbers_in}
use Rattle.lines.specs.Form.{good_line, bad_line, parts_of, all_numbers, flows_kept}
use Rattle.reader.specs.Reader.{mesh_of, well_formed, input_in, input_of}

-- ---- Case A

pub case_a : List ℕ
case_a = bytes "mesh\t2\t2\t6\t4\nsearch\t16\t3\nflow\t0\t1\t608\t588\t608\nflow\t0\t3\t608\t1588\t608\nflow\t2\t3\t608\t716\t608\nflow\t2\t1\t608\t948\t608\nflow\t3\t0\t608\t436\t608\n"

-- it reads as its numbers
pub case_a_reads : input_of case_a ≡ Ok (record {
  mesh = record { columns = 2; rows = 2; r = 6; flit = 4 };
  pruning = 16;
  threshold = 3;
  numbers = flows_kept
      (0 ∷ 1 ∷ 608 ∷ 588 ∷ 608 ∷ 0 ∷ 3 ∷ 608 ∷ 1588 ∷ 608 ∷ 2 ∷ 3 ∷ 608 ∷ 716 ∷ 608 ∷ 2 ∷ 1 ∷ 608 ∷ 948 ∷ 608 ∷ 3 ∷ 0 ∷ 608 ∷ 436 ∷ 608 ∷ []);
  flows = 5;
})
unfolding case_a input_of input_in parts_of split_by onto bad_line good_line is_record fields_of same_bytes are_numbers is_number is_formed no_leading_zero all_digits is_digit value_of value_from numbers_in well_formed mesh_of all_numbers flows_kept padded
case_a_reads = refl

-- ---- bad lines

-- a text, and its first bad line
pub record Row : Type 0 where
  pub text : String
  pub line : ℕ

row : String → ℕ → Row
row text line = record { text = text; line = line }

-- absent lines; an unfinished last line; a wrong word; too few and too many fields; an empty field; a space, a carriage return, a capital
-- letter; a leading zero; 11 digits; a number above the largest; a blank line; and texts that are well formed
pub rows : List Row
rows =
    row "" 1
    ∷ row "mesh\t2\t2\t6\t4\n" 2
    ∷ row "mesh\t2\t2\t6\t4" 1
    ∷ row "mesh\t2\t2\t6\t4\nsearch\t16\t3" 2
    ∷ row "mesh\t2\t2\t6\t4\nsearch\t16\t3\nflow\t0\t1\t608\t588\t608" 3
    ∷ row "search\t16\t3\nmesh\t2\t2\t6\t4\n" 1
    ∷ row "mesh\t2\t2\t6\t4\nflow\t0\t1\t608\t588\t608\n" 2
    ∷ row "mesh\t2\t2\t6\n" 1
    ∷ row "mesh\t2\t2\t6\t4\nsearch\t16\t3\t0\n" 2
    ∷ row "mesh\t2\t\t6\t4\n" 1
    ∷ row "mesh\t2\t2\t6\t4\t\n" 1
    ∷ row "mesh\t2\t2\t6\t4\nsearch\t16\t 3\n" 2
    ∷ row "mesh\t2\t2\t6\t4\r\nsearch\t16\t3\n" 1
    ∷ row "Mesh\t2\t2\t6\t4\n" 1
    ∷ row "mesh\t02\t2\t6\t4\n" 1
    ∷ row "mesh\t2\t2\t6\t00\n" 1
    ∷ row "mesh\t2\t2\t6\t4\nsearch\t16\t3\nflow\t0\t1\t608\t588\t10000000000\n" 3
    ∷ row "mesh\t2\t2\t6\t4\nsearch\t16\t3\nflow\t0\t1\t608\t588\t4294967296\n" 3
    ∷ row "mesh\t2\t2\t6\t4\nsearch\t16\t3\n\n" 3
    ∷ row "mesh\t2\t2\t6\t4\nsearch\t16\t3\nflow\t0\t1\t608\t588\t4294967295\n" 0
    ∷ row "mesh\t0\t0\t0\t0\nsearch\t0\t0\n" 0
    ∷ []

-- each has its line
pub first_bad_lines : map (λ (r : Row). bad_line 1 (parts_of (bytes r.text))) rows ≡ map (λ (r : Row). r.line) rows
unfolding rows row parts_of split_by onto bad_line good_line is_record fields_of same_bytes are_numbers is_number is_formed no_leading_zero all_digits is_digit value_of value_from
first_bad_lines = refl
