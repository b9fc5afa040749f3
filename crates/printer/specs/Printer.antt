-- The text that is printed: table, inject and end lines, or one refuse line; and the same text piece by piece.
use Rattle.std.specs.Prelude.{◌≡◌, Bool, true, false, List, [], ◌∷◌, ◌++◌, ℕ, zero, suc, ◌+◌, ◌-◌, eqb, ltb, length, get_or}
use Rattle.basics.specs.Choose.{either, choose}
use Rattle.model.specs.declared.answers.Answer.{Answer}
use Rattle.words.specs.Bytes.{bytes}
use Rattle.words.specs.Fields.{field, ended, time_field}
use Rattle.words.specs.Writer.{in_front}
use Rattle.printer.specs.declared.printing.Cursor.{Cursor}
use Rattle.printer.specs.declared.printing.Cursor.TheVariants.{First, Packet, Done}
use Rattle.printer.specs.declared.printing.Field.{Field}
use Rattle.printer.specs.declared.printing.Field.TheVariants.{Number, Time}
use Rattle.printer.specs.declared.printing.Output.{Output}
use Rattle.printer.specs.declared.printing.Piece.{Piece}

-- ---- lines

-- `table`: H, packets
unfoldable pub table_line : ℕ → ℕ → List ℕ
table_line hyper packets = bytes "table" ++ field hyper ++ field packets ++ ended

-- `inject`: packet, flow, k, time
unfoldable pub inject_line : ℕ → ℕ → ℕ → ℕ → List ℕ
inject_line packet flow turn time = bytes "inject" ++ field packet ++ field flow ++ field turn ++ time_field time ++ ended

-- `end`: passes, tries, skipped
unfoldable pub end_line : ℕ → ℕ → ℕ → List ℕ
end_line passes tries skipped = bytes "end" ++ field passes ++ field tries ++ field skipped ++ ended

-- `refuse`: number, place
unfoldable pub refuse_line : ℕ → ℕ → List ℕ
refuse_line number place = bytes "refuse" ++ field number ++ field place ++ ended

-- ---- the fields of a line

-- a field as text: a number, or a time with the word `none` for a skipped packet
unfoldable pub field_text : Field → List ℕ
field_text (Number n) = field n
field_text (Time time) = time_field time

-- a line: what stands in front, the fields behind it, one after the other, and the line feed
unfoldable pub line_of : List ℕ → List Field → List ℕ
line_of front [] = front ++ ended
line_of front (f ∷ fields) = line_of (front ++ field_text f) fields

-- ---- the whole text

-- numbers 0 and 13 print the table
unfoldable pub prints_table : ℕ → Bool
prints_table number = either (eqb number 0) (eqb number 13)

-- the inject line of a packet, with its flow, its k and its time
unfoldable pub inject_of : List ℕ → List ℕ → List ℕ → ℕ → List ℕ
inject_of table flows turns p = inject_line p (get_or flows p 0) (get_or turns p 0) (get_or table p 0)

-- the inject lines of n packets from p on
unfoldable pub inject_lines : List ℕ → List ℕ → List ℕ → ℕ → ℕ → List ℕ
inject_lines table flows turns p zero = []
inject_lines table flows turns p (suc n) = inject_of table flows turns p ++ inject_lines table flows turns (p + 1) n

-- the line behind the packets' lines
unfoldable pub end_for : Answer → List ℕ
end_for answer = end_line answer.passes answer.tries answer.skipped

-- the output text: the table, or for any number but 0 and 13 one refuse line
unfoldable pub output_of : Answer → List ℕ → List ℕ → List ℕ → List ℕ
output_of answer table flows turns =
    choose (prints_table answer.number)
    (table_line answer.hyper answer.packets ++ (inject_lines table flows turns 0 answer.packets ++ end_for answer))
    (refuse_line answer.number answer.place)

-- ---- the same text piece by piece

-- the line that stands at a cursor
unfoldable pub piece_at : Answer → List ℕ → List ℕ → List ℕ → Cursor → List ℕ
piece_at answer table flows turns First =
    choose (prints_table answer.number) (table_line answer.hyper answer.packets) (refuse_line answer.number answer.place)
piece_at answer table flows turns (Packet p) = choose (ltb p answer.packets) (inject_of table flows turns p) (end_for answer)
piece_at answer table flows turns Done = []

-- the cursor behind that line
unfoldable pub cursor_after : Answer → Cursor → Cursor
cursor_after answer First = choose (prints_table answer.number) (Packet 0) Done
cursor_after answer (Packet p) = choose (ltb p answer.packets) (Packet (p + 1)) Done
cursor_after answer Done = Done

-- whether nothing is left at a cursor
unfoldable pub is_done : Cursor → Bool
is_done First = false
is_done (Packet p) = false
is_done Done = true

-- the longest line is shorter than this, so a buffer of so many bytes has room for any line
abbrev pub longest : ℕ
longest = 96

-- what a buffer of so many bytes takes at a cursor: the line, or nothing if it has not room for any line
unfoldable pub piece_in : ℕ → Answer → List ℕ → List ℕ → List ℕ → Cursor → List ℕ
piece_in room answer table flows turns cursor = choose (ltb room longest) [] (piece_at answer table flows turns cursor)

-- the cursor behind it; a buffer with no room ends the text
unfoldable pub next_in : ℕ → Answer → Cursor → Cursor
next_in room answer cursor = choose (ltb room longest) Done (cursor_after answer cursor)

-- the piece: how long its line is, and the cursor behind it
unfoldable pub piece_of : List ℕ → Cursor → Piece
piece_of text next = record { len = length text; next = next }

-- what the printer answers, and what stands in the buffer then
pub record Printed (answer : Answer) (table flows turns before after : List ℕ) (cursor : Cursor) (piece : Piece) : Type 0 where
  pub answer_is : piece ≡ piece_of (piece_in (length before) answer table flows turns cursor) (next_in (length before) answer cursor)
  pub buffer_is : after ≡ in_front (piece_in (length before) answer table flows turns cursor) before

-- the same, of what is printed together
abbrev pub PrintedOf : Output → List ℕ → List ℕ → Cursor → Piece → Type 0
PrintedOf output before after cursor piece = Printed output.answer output.table.now output.flows.now output.turns.now before after cursor piece

-- the text from a cursor on
unfoldable pub rest_of : Answer → List ℕ → List ℕ → List ℕ → Cursor → List ℕ
rest_of answer table flows turns First = output_of answer table flows turns
rest_of answer table flows turns (Packet p) = inject_lines table flows turns p (answer.packets - p) ++ end_for answer
rest_of answer table flows turns Done = []

-- how many pieces stand from a cursor on, at most
unfoldable pub pieces_left : Answer → Cursor → ℕ
pieces_left answer First = answer.packets + 2
pieces_left answer (Packet p) = answer.packets - p + 1
pieces_left answer Done = 0

-- the pieces of n steps, one after the other
unfoldable pub pieces_of : Answer → List ℕ → List ℕ → List ℕ → ℕ → Cursor → List ℕ
pieces_of answer table flows turns zero cursor = []
pieces_of answer table flows turns (suc n) cursor =
    piece_at answer table flows turns cursor ++ pieces_of answer table flows turns n (cursor_after answer cursor)
