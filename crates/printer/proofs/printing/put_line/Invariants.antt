-- `printer::printing::put_line` meets its contract: after i turns the word and the first i fields stand in front.
use mathlib.Core.Path.{◌≡◌}
use mathlib.Core.List.{List}
use Prim.Native.Nat.{ℕ, ◌+◌, ◌*◌, ◌≤◌}
use lib.ListN.{length, drop}
use Rattle.words.specs.Writer.{Put}
use Rattle.printer.specs.Printer.{line_of, longest}
use Rattle.printer.specs.declared.printing.Field.{Field}
use Rattle.printer.proofs.printing.put_line.Given as goal

-- a text stands in front, and with the other fields behind it is the whole line
pub record Standing (word : List ℕ) (fields : List Field) (before out : List ℕ) (i next : ℕ) : Type 0 where
  pub room : (length word ≤ 6) × (length fields ≤ 4) × (longest ≤ length before)
  pub text : List ℕ
  pub stands : Put (6 + 21 * i) before out 0 text next
  pub rest : line_of text (drop i fields) ≡ line_of word fields

abbrev pub invariant-loop-field : goal.invariant-loop-field
invariant-loop-field l = Standing l.word l.fields l.fn.out l.out l.field-index l.next
