-- Laws of the text line by line: the line at each cursor comes first; and the lines, joined, are the whole text.
use mathlib.Core.Path.{◌≡◌, refl, sym, ◌∙◌, ap}
use mathlib.Core.Bool.{Bool, true, false}
use mathlib.Core.List.{List, [], ◌∷◌, ◌++◌, append_assoc, append-nil}
use Prim.Native.Nat.{ℕ, zero, suc, ◌+◌, ◌-◌, ◌≤◌}
use native.Mathlib.Omega.{arith}
use borrow.Author.Tests.{ltb-true, ltb-false}
use lib.Dec.{ltb}
use lib.ListN.{length, take}
use Rattle.std.specs.List.{concat}
use Rattle.model.specs.declared.answers.Answer.{Answer}
use Rattle.printer.specs.Printer.{table_line, refuse_line, prints_table, inject_of, inject_lines, end_for, output_of, piece_at, cursor_after, is_done, longest, Printed}
use Rattle.printer.specs.ByLine.{lines_from, lines_of, lines_at}
use Rattle.printer.specs.declared.printing.Cursor.{Cursor}
use Rattle.printer.specs.declared.printing.Cursor.TheVariants.{First, Packet, Done}
use Rattle.printer.specs.declared.printing.Piece.{Piece}
use Rattle.printer.proofs.Pieces.{line_stands, next_stands}

module _ (answer : Answer) (table flows turns : List ℕ) where
  -- behind all lines none is left
  pub lines_done : (cursor : Cursor) → is_done cursor ≡ true → lines_at answer table flows turns cursor ≡ []
  unfolding is_done lines_at
  lines_done First e = absurd (cc)
  lines_done (Packet p) e = absurd (cc)
  lines_done Done e = refl

  -- else the line at the cursor comes first
  line_first : (cursor : Cursor) → is_done cursor ≡ false
      → lines_at answer table flows turns cursor ≡ piece_at answer table flows turns cursor ∷ lines_at answer table flows turns (cursor_after answer cursor)
  unfolding is_done lines_at lines_of lines_from piece_at cursor_after
  line_first First e = go (prints_table answer.number) refl
    where
      go : (t : Bool) → prints_table answer.number ≡ t
          → lines_of answer table flows turns ≡ piece_at answer table flows turns First ∷ lines_at answer table flows turns (cursor_after answer First)
      go true h =
          rw h
          (ap (λ (k : ℕ). table_line answer.hyper answer.packets ∷ lines_from answer table flows turns 0 k)
          (let k : answer.packets ≡ answer.packets - 0 = omega arith in k))
      go false h = rw h
  line_first (Packet p) e = go (ltb p answer.packets) refl
    where
      go : (t : Bool) → ltb p answer.packets ≡ t
          → lines_from answer table flows turns p (answer.packets - p)
          ≡ piece_at answer table flows turns (Packet p) ∷ lines_at answer table flows turns (cursor_after answer (Packet p))
      go true h =
          let below = ltb-true p answer.packets h in
          rw h (ap (lines_from answer table flows turns p) (let k : answer.packets - p ≡ suc (answer.packets - (p + 1)) = omega arith in k))
      go false h =
          let above = ltb-false p answer.packets h in
          rw h (ap (lines_from answer table flows turns p) (let k : answer.packets - p ≡ 0 = omega arith in k))
  line_first Done e = absurd (cc)

  -- what a piece leaves in a buffer with room is the line that comes first, and the others stand behind it
  pub line_next : (before after : List ℕ) (cursor : Cursor) (piece : Piece) → Printed answer table flows turns before after cursor piece
      → longest ≤ length before → is_done cursor ≡ false
      → lines_at answer table flows turns cursor ≡ take piece.len after ∷ lines_at answer table flows turns piece.next
  line_next before after cursor piece p h e =
      line_first cursor e
      ∙ ap (λ (l : List ℕ). l ∷ lines_at answer table flows turns (cursor_after answer cursor))
      (sym (line_stands answer table flows turns before after cursor piece p h))
      ∙ ap (λ (k : Cursor). take piece.len after ∷ lines_at answer table flows turns k)
      (sym (next_stands answer table flows turns before after cursor piece p h))

  -- the packets' lines and the end line, joined
  joined_from : (p n : ℕ) → concat (lines_from answer table flows turns p n) ≡ inject_lines table flows turns p n ++ end_for answer
  unfolding lines_from inject_lines
  joined_from p zero = append-nil (end_for answer)
  joined_from p (suc n) =
      ap (λ (l : List ℕ). inject_of table flows turns p ++ l) (joined_from (p + 1) n)
      ∙ sym (append_assoc (inject_of table flows turns p) (inject_lines table flows turns (p + 1) n) (end_for answer))

  -- all lines, joined, are the output text
  pub all_lines : concat (lines_of answer table flows turns) ≡ output_of answer table flows turns
  unfolding lines_of output_of
  all_lines = go (prints_table answer.number) refl
    where
      go : (t : Bool) → prints_table answer.number ≡ t → concat (lines_of answer table flows turns) ≡ output_of answer table flows turns
      go true h = rw h (ap (λ (l : List ℕ). table_line answer.hyper answer.packets ++ l) (joined_from 0 answer.packets))
      go false h = rw h (append-nil (refuse_line answer.number answer.place))
