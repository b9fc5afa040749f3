-- Every public function's answer, and the buffer lent to it, follow from its arguments: any two that its contract allows are equal,
-- wherever the same numbers are kept.
use mathlib.Core.Path.{◌≡◌, refl, sym, ◌∙◌, ap}
use mathlib.Core.List.{List}
use Prim.Native.Nat.{ℕ}
use contract.Lifetimes.{Lfts}
use denote.Triple.Clauses.{AtExit}
use borrow.Fn.Kinds.{Dens, res_t, ended_of}
use lib.ListN.{length}
use Rattle.std.specs.declared.option.Option.{Option}
use Rattle.std.specs.Prelude.{None, Some}
use Rattle.std.specs.Option.{option_map}
use Rattle.std.specs.Iterator.{YieldsFirstBy}
use Rattle.model.specs.declared.answers.Answer.{Answer}
use Rattle.words.specs.Writer.{in_front}
use Rattle.printer.specs.Printer.{piece_in, next_in, piece_of, is_done as done_at, Printed}
use Rattle.printer.specs.ByLine.{line_text, lines_of, lines_left}
use Rattle.printer.specs.declared.printing.Cursor.{Cursor}
use Rattle.printer.specs.declared.line.Line.{Line}
use Rattle.printer.specs.declared.printing.Piece.{Piece}
use Rattle.printer.specs.declared.text.Lines.{Lines}
use Rattle.printer.proofs.printing.Cursor.is_done.Reads as is_done
use Rattle.printer.proofs.printing.Cursor.is_done.Kinds as is_done_kinds
use Rattle.printer.proofs.line.Line.as_bytes.Reads as as_bytes
use Rattle.printer.proofs.line.Line.as_bytes.Kinds as as_bytes_kinds
use Rattle.printer.proofs.text.Lines.new.Reads as new
use Rattle.printer.proofs.text.Lines.new.Kinds as new_kinds
use Rattle.printer.proofs.text.LinesIterator.next.Reads as next
use Rattle.printer.proofs.text.LinesIterator.next.Kinds as next_kinds
use Rattle.printer.proofs.printing.put_piece.Reads as put_piece
use Rattle.printer.proofs.printing.put_piece.Kinds as put_piece_kinds

-- two pieces printed of the same things are the same, and so are the buffers
printed_once : (answer₁ answer₂ : Answer) (table₁ table₂ flows₁ flows₂ turns₁ turns₂ before₁ before₂ after₁ after₂ : List ℕ) (cursor₁ cursor₂ : Cursor)
    (x y : Piece) → cursor₁ ≡ cursor₂ → answer₁ ≡ answer₂ → table₁ ≡ table₂ → flows₁ ≡ flows₂ → turns₁ ≡ turns₂ → before₁ ≡ before₂
    → Printed answer₁ table₁ flows₁ turns₁ before₁ after₁ cursor₁ x → Printed answer₂ table₂ flows₂ turns₂ before₂ after₂ cursor₂ y
    → (x ≡ y) × (after₁ ≡ after₂)
printed_once answer₁ answer₂ table₁ table₂ flows₁ flows₂ turns₁ turns₂ before₁ before₂ after₁ after₂ cursor₁ cursor₂ x y c a e f g h p q =
    let length_is : length before₁ ≡ length before₂ = ap length h in
    let text_is : piece_in (length before₁) answer₁ table₁ flows₁ turns₁ cursor₁ ≡ piece_in (length before₂) answer₂ table₂ flows₂ turns₂ cursor₂ = cc in
    let next_is : next_in (length before₁) answer₁ cursor₁ ≡ next_in (length before₂) answer₂ cursor₂ = cc in (
      p.answer_is ∙ ap (λ (l : List ℕ). piece_of l (next_in (length before₁) answer₁ cursor₁)) text_is
          ∙ ap (piece_of (piece_in (length before₂) answer₂ table₂ flows₂ turns₂ cursor₂)) next_is ∙ sym q.answer_is,
      p.buffer_is ∙ ap (λ (l : List ℕ). in_front l before₁) text_is ∙ ap (in_front (piece_in (length before₂) answer₂ table₂ flows₂ turns₂ cursor₂)) h ∙ sym q.buffer_is,
    )

-- a piece and the buffer it leaves, of the same cursor and answer, and of slices that hold the same numbers
pub put_piece_determined : (κs λs : Lfts 2) (a : Dens κs put_piece_kinds.ps) (b : Dens λs put_piece_kinds.ps)
    (x : (res_t put_piece_kinds.r κs).Denot) (y : (res_t put_piece_kinds.r λs).Denot)
    (s : AtExit (ended_of 2 put_piece_kinds.ps put_piece_kinds.r) κs)
    (t : AtExit (ended_of 2 put_piece_kinds.ps put_piece_kinds.r) λs)
    → a.0 ≡ b.0
    → a.1.0.answer ≡ b.1.0.answer
    → a.1.0.table.now ≡ b.1.0.table.now
    → a.1.0.flows.now ≡ b.1.0.flows.now
    → a.1.0.turns.now ≡ b.1.0.turns.now
    → a.1.1.0.now ≡ b.1.1.0.now
    → put_piece.Post κs a x s → put_piece.Post λs b y t
    → (x ≡ y) × (s.1.1.0.now ≡ t.1.1.0.now)
put_piece_determined κs λs a b x y s t c e f g h i p q = printed_once _ _ _ _ _ _ _ _ _ _ _ _ _ _ _ _ c e f g h i p q

-- whether nothing is left at a cursor
pub is_done_determined : (κs λs : Lfts 0) (a : Dens κs is_done_kinds.ps) (b : Dens λs is_done_kinds.ps)
    (x : (res_t is_done_kinds.r κs).Denot) (y : (res_t is_done_kinds.r λs).Denot)
    (s : AtExit (ended_of 0 is_done_kinds.ps is_done_kinds.r) κs)
    (t : AtExit (ended_of 0 is_done_kinds.ps is_done_kinds.r) λs)
    → a.0 ≡ b.0
    → is_done.Post κs a x s → is_done.Post λs b y t
    → x ≡ y
is_done_determined κs λs a b x y s t c p q = p ∙ ap done_at c ∙ sym q

-- the lines that are still to come, of slices that hold the same numbers
pub new_determined : (κs λs : Lfts 1) (a : Dens κs new_kinds.ps) (b : Dens λs new_kinds.ps)
    (x : (res_t new_kinds.r κs).Denot) (y : (res_t new_kinds.r λs).Denot)
    (s : AtExit (ended_of 1 new_kinds.ps new_kinds.r) κs)
    (t : AtExit (ended_of 1 new_kinds.ps new_kinds.r) λs)
    → a.0.answer ≡ b.0.answer
    → a.0.table.now ≡ b.0.table.now
    → a.0.flows.now ≡ b.0.flows.now
    → a.0.turns.now ≡ b.0.turns.now
    → new.Post κs a x s → new.Post λs b y t
    → lines_left x ≡ lines_left y
new_determined κs λs a b x y s t e f g h p q =
    let lines_are : lines_of a.0.answer a.0.table.now a.0.flows.now a.0.turns.now ≡ lines_of b.0.answer b.0.table.now b.0.flows.now b.0.turns.now = cc in
    p ∙ lines_are ∙ sym q

-- the bytes of a line, of lines that hold the same
pub as_bytes_determined : (κs λs : Lfts 1) (a : Dens κs as_bytes_kinds.ps) (b : Dens λs as_bytes_kinds.ps)
    (x : (res_t as_bytes_kinds.r κs).Denot) (y : (res_t as_bytes_kinds.r λs).Denot)
    (s : AtExit (ended_of 1 as_bytes_kinds.ps as_bytes_kinds.r) κs)
    (t : AtExit (ended_of 1 as_bytes_kinds.ps as_bytes_kinds.r) λs)
    → line_text a.0.now ≡ line_text b.0.now
    → as_bytes.Post κs a x s → as_bytes.Post λs b y t
    → x.now ≡ y.now
as_bytes_determined κs λs a b x y s t c p q = p ∙ c ∙ sym q

-- a call at the same lines to come gives the same line, and leaves the same lines
yielded_once : (before₁ before₂ after₁ after₂ : Lines) (x y : Option Line) → lines_left before₁ ≡ lines_left before₂
    → YieldsFirstBy line_text lines_left before₁ x after₁ → YieldsFirstBy line_text lines_left before₂ y after₂
    → (option_map line_text x ≡ option_map line_text y) × (lines_left after₁ ≡ lines_left after₂)
yielded_once before₁ before₂ after₁ after₂ None None c p q = (refl, p.1 ∙ sym q.1)
yielded_once before₁ before₂ after₁ after₂ None (Some y) c p q = absurd (cc)
yielded_once before₁ before₂ after₁ after₂ (Some x) None c p q = absurd (cc)
yielded_once before₁ before₂ after₁ after₂ (Some x) (Some y) c p q = (cc, cc)

-- the next line, and the lines that are left behind it, of iterators with the same lines to come
pub next_determined : (κs λs : Lfts 2) (a : Dens κs next_kinds.ps) (b : Dens λs next_kinds.ps)
    (x : (res_t next_kinds.r κs).Denot) (y : (res_t next_kinds.r λs).Denot)
    (s : AtExit (ended_of 2 next_kinds.ps next_kinds.r) κs)
    (t : AtExit (ended_of 2 next_kinds.ps next_kinds.r) λs)
    → lines_left a.0.now ≡ lines_left b.0.now
    → next.Post κs a x s → next.Post λs b y t
    → (option_map line_text x ≡ option_map line_text y) × (lines_left s.0.now ≡ lines_left t.0.now)
next_determined κs λs a b x y s t c p q = yielded_once a.0.now b.0.now s.0.now t.0.now x y c p.0 q.0
