-- The text line by line, as the iterator gives it.
use Rattle.std.specs.Prelude.{List, [], ◌∷◌, ℕ, zero, suc, ◌+◌, ◌-◌, take}
use Rattle.basics.specs.Choose.{choose}
use Rattle.model.specs.declared.answers.Answer.{Answer}
use Rattle.printer.specs.Printer.{prints_table, table_line, inject_of, end_for, refuse_line}
use Rattle.printer.specs.declared.printing.Cursor.{Cursor}
use Rattle.printer.specs.declared.printing.Cursor.TheVariants.{First, Packet, Done}
use Rattle.printer.specs.declared.line.Line.{Line}
use Rattle.printer.specs.declared.printing.Output.{Output}
use Rattle.printer.specs.declared.text.Lines.{Lines}

-- the bytes of a line
abbrev pub line_text : Line → List ℕ
line_text line = take line.len line.bytes

-- the inject lines of n packets from p on, and the end line
unfoldable pub lines_from : Answer → List ℕ → List ℕ → List ℕ → ℕ → ℕ → List (List ℕ)
lines_from answer table flows turns p zero = end_for answer ∷ []
lines_from answer table flows turns p (suc n) = inject_of table flows turns p ∷ lines_from answer table flows turns (p + 1) n

-- the lines of the whole text: those of the table, or one refuse line
unfoldable pub lines_of : Answer → List ℕ → List ℕ → List ℕ → List (List ℕ)
lines_of answer table flows turns =
    choose (prints_table answer.number)
    (table_line answer.hyper answer.packets ∷ lines_from answer table flows turns 0 answer.packets)
    (refuse_line answer.number answer.place ∷ [])

-- the lines from a cursor on
unfoldable pub lines_at : Answer → List ℕ → List ℕ → List ℕ → Cursor → List (List ℕ)
lines_at answer table flows turns First = lines_of answer table flows turns
lines_at answer table flows turns (Packet p) = lines_from answer table flows turns p (answer.packets - p)
lines_at answer table flows turns Done = []

-- the lines of what is printed together
abbrev pub lines_for : Output → List (List ℕ)
lines_for output = lines_of output.answer output.table.now output.flows.now output.turns.now

-- the lines that are still to come
abbrev pub lines_left : Lines → List (List ℕ)
lines_left lines =
    lines_at lines.output.answer lines.output.table.now lines.output.flows.now lines.output.turns.now lines.cursor
