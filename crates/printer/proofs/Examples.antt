-- Whole texts printed: Case A, a table with a skipped packet, and a refusal.
use mathlib.Core.Path.{◌≡◌, refl}
use mathlib.Core.List.{[], ◌∷◌}
use Rattle.packet.specs.Table.{none}
use Rattle.digits.specs.Numbers.{decimal_within, decimal}
use Rattle.words.specs.Bytes.{bytes}
use Rattle.words.specs.Fields.{field, time_field, ended}
use Rattle.printer.specs.Printer.{table_line, inject_line, end_line, refuse_line, prints_table, inject_of, inject_lines, end_for, output_of}

-- Case A's answer prints as document 01 shows
pub case_a_prints : output_of (record { number = 0; place = 0; other = 0; hyper = 608; packets = 5; passes = 1; tries = 57; skipped = 0 })
    (416 ∷ 0 ∷ 416 ∷ 0 ∷ 0 ∷ []) (0 ∷ 1 ∷ 2 ∷ 3 ∷ 4 ∷ []) (0 ∷ 0 ∷ 0 ∷ 0 ∷ 0 ∷ [])
    ≡ bytes "table\t608\t5\ninject\t0\t0\t0\t416\ninject\t1\t1\t0\t0\ninject\t2\t2\t0\t416\ninject\t3\t3\t0\t0\ninject\t4\t4\t0\t0\nend\t1\t57\t0\n"
unfolding output_of prints_table table_line inject_lines inject_of inject_line end_for end_line field time_field ended decimal decimal_within
case_a_prints = refl

-- T10: a skipped packet prints the word, and number 13 prints its table and no refusal
pub skipped_prints : output_of (record { number = 13; place = 2; other = 0; hyper = 608; packets = 5; passes = 3; tries = 153; skipped = 1 })
    (420 ∷ 0 ∷ none ∷ 0 ∷ 0 ∷ []) (0 ∷ 1 ∷ 2 ∷ 3 ∷ 4 ∷ []) (0 ∷ 0 ∷ 0 ∷ 0 ∷ 0 ∷ [])
    ≡ bytes "table\t608\t5\ninject\t0\t0\t0\t420\ninject\t1\t1\t0\t0\ninject\t2\t2\t0\tnone\ninject\t3\t3\t0\t0\ninject\t4\t4\t0\t0\nend\t3\t153\t1\n"
unfolding output_of prints_table table_line inject_lines inject_of inject_line end_for end_line field time_field ended decimal decimal_within
skipped_prints = refl

-- any other number prints one line, with its number and its place
pub refusal_prints : output_of (record { number = 12; place = 1; other = 2; hyper = 0; packets = 0; passes = 0; tries = 0; skipped = 0 }) [] [] []
    ≡ bytes "refuse\t12\t1\n"
unfolding output_of prints_table refuse_line field ended decimal decimal_within
refusal_prints = refl
