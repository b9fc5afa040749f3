-- Laws of the text piece by piece: what the printer answers at each cursor; then that the pieces, one after the other, are the whole text.
use mathlib.Core.Path.{◌≡◌, refl, sym, ◌∙◌, ap}
use mathlib.Core.Bool.{Bool, true, false}
use mathlib.Core.List.{List, [], ◌++◌, append_assoc, append-nil}
use Prim.Native.Nat.{ℕ, zero, suc, ◌+◌, ◌-◌, ◌≤◌, ◌<◌}
use native.Mathlib.Omega.{arith}
use borrow.Author.Tests.{lt-ltb, le-ltb, ltb-true, ltb-false}
use lib.Dec.{ltb}
use lib.ListN.{length, get_or, take, drop, length-append}
use lib.Seq.{take-append_seam}
use Rattle.model.specs.declared.answers.Answer.{Answer}
use Rattle.words.specs.Writer.{Put, in_front}
use Rattle.words.proofs.Putting.{put_front}
use Rattle.printer.specs.Printer.{table_line, inject_line, refuse_line, prints_table, inject_of, inject_lines, end_for, output_of, piece_at, cursor_after, longest, piece_in, next_in, piece_of, Printed, rest_of, pieces_left, pieces_of}
use Rattle.printer.specs.declared.printing.Cursor.{Cursor}
use Rattle.printer.specs.declared.printing.Cursor.TheVariants.{First, Packet, Done}
use Rattle.printer.specs.declared.printing.Piece.{Piece}

-- ---- the cursor behind each line

module _ (answer : Answer) where
  pub behind_table : prints_table answer.number ≡ true → cursor_after answer First ≡ Packet 0
  unfolding cursor_after
  behind_table e = rw e

  pub behind_refuse : prints_table answer.number ≡ false → cursor_after answer First ≡ Done
  unfolding cursor_after
  behind_refuse e = rw e

  pub behind_packet : (p : ℕ) → p < answer.packets → cursor_after answer (Packet p) ≡ Packet (p + 1)
  unfolding cursor_after
  behind_packet p h = rw (lt-ltb p answer.packets h)

  pub behind_end : (p : ℕ) → answer.packets ≤ p → cursor_after answer (Packet p) ≡ Done
  unfolding cursor_after
  behind_end p h = rw (le-ltb p answer.packets h)

-- ---- what the printer answers

-- a buffer with no room
pub no_room : (answer : Answer) (table flows turns before : List ℕ) (cursor : Cursor) → length before < longest
    → Printed answer table flows turns before before cursor (record { len = 0; next = Done })
unfolding piece_in next_in piece_of in_front
no_room answer table flows turns before cursor h = record {
  answer_is = sym (rw (lt-ltb (length before) longest h));
  buffer_is = sym (rw (lt-ltb (length before) longest h));
}

module _ (answer : Answer) (table flows turns : List ℕ) where
  module _ (before after : List ℕ) (h : longest ≤ length before) where
    -- a line that was put in front of the buffer
    pub a_line : (cursor next : Cursor) (text : List ℕ) (len : ℕ) → piece_at answer table flows turns cursor ≡ text → cursor_after answer cursor ≡ next
        → Put longest before after 0 text len
        → Printed answer table flows turns before after cursor (record { len = len; next = next })
    unfolding piece_in next_in piece_of
    a_line cursor next text len e f p = record {
      answer_is =
          rw (le-ltb (length before) longest h, e, f)
          (ap (λ (k : ℕ). record { len = k; next = next }) (p.place ∙ (let k : 0 + length text ≡ length text = omega arith in k)));
      buffer_is = rw (le-ltb (length before) longest h, e) (put_front longest before after text len p);
    }

    -- behind all lines
    pub no_line_lem : after ≡ before → Printed answer table flows turns before after Done (record { len = 0; next = Done })
    unfolding piece_in next_in piece_of piece_at cursor_after in_front
    no_line_lem e = record {
      answer_is = sym (rw (le-ltb (length before) longest h));
      buffer_is = rw (le-ltb (length before) longest h) e;
    }

  -- ---- the line at each cursor

  pub first_table : prints_table answer.number ≡ true → piece_at answer table flows turns First ≡ table_line answer.hyper answer.packets
  unfolding piece_at
  first_table e = rw e

  pub first_refuse : prints_table answer.number ≡ false → piece_at answer table flows turns First ≡ refuse_line answer.number answer.place
  unfolding piece_at
  first_refuse e = rw e

  -- a packet's line has its flow, its k and its time
  pub packet_line : (p : ℕ) → p < answer.packets → (flow turn time : ℕ) → flow ≡ get_or flows p 0 → turn ≡ get_or turns p 0 → time ≡ get_or table p 0
      → piece_at answer table flows turns (Packet p) ≡ inject_line p flow turn time
  unfolding piece_at inject_of
  packet_line p h flow turn time f t s = rw (lt-ltb p answer.packets h, f, t, s)

  pub end_line_lem : (p : ℕ) → answer.packets ≤ p → piece_at answer table flows turns (Packet p) ≡ end_for answer
  unfolding piece_at
  end_line_lem p h = rw (le-ltb p answer.packets h)

  -- ---- the pieces are the text

  -- the text from a cursor on is the line there, and the text behind it
  pub piece_by_piece : (cursor : Cursor)
      → rest_of answer table flows turns cursor ≡ piece_at answer table flows turns cursor ++ rest_of answer table flows turns (cursor_after answer cursor)
  unfolding rest_of output_of piece_at cursor_after inject_lines
  piece_by_piece First = go (prints_table answer.number) refl
    where
      go : (t : Bool) → prints_table answer.number ≡ t
          → output_of answer table flows turns ≡ piece_at answer table flows turns First ++ rest_of answer table flows turns (cursor_after answer First)
      go true e =
          rw e
          (ap (λ (k : ℕ). table_line answer.hyper answer.packets ++ (inject_lines table flows turns 0 k ++ end_for answer))
          (let k : answer.packets ≡ answer.packets - 0 = omega arith in k))
      go false e = rw e (sym (append-nil (refuse_line answer.number answer.place)))
  piece_by_piece (Packet p) = go (ltb p answer.packets) refl
    where
      go : (t : Bool) → ltb p answer.packets ≡ t
          → inject_lines table flows turns p (answer.packets - p) ++ end_for answer
          ≡ piece_at answer table flows turns (Packet p) ++ rest_of answer table flows turns (cursor_after answer (Packet p))
      go true e =
          let h = ltb-true p answer.packets e in
          rw e
          (ap (λ (k : ℕ). inject_lines table flows turns p k ++ end_for answer) (let k : answer.packets - p ≡ suc (answer.packets - (p + 1)) = omega arith in k)
          ∙ append_assoc (inject_of table flows turns p) (inject_lines table flows turns (p + 1) (answer.packets - (p + 1))) (end_for answer))
      go false e =
          let h = ltb-false p answer.packets e in
          rw e
          (ap (λ (k : ℕ). inject_lines table flows turns p k ++ end_for answer) (let k : answer.packets - p ≡ 0 = omega arith in k)
          ∙ sym (append-nil (end_for answer)))
  piece_by_piece Done = refl

  -- each piece leaves one fewer, at least
  pub pieces_fewer : (cursor : Cursor) → pieces_left answer (cursor_after answer cursor) ≤ pieces_left answer cursor - 1
  unfolding pieces_left cursor_after
  pieces_fewer First = go (prints_table answer.number) refl
    where
      go : (t : Bool) → prints_table answer.number ≡ t → pieces_left answer (cursor_after answer First) ≤ pieces_left answer First - 1
      go true e = rw e (omega arith)
      go false e = rw e (omega arith)
  pieces_fewer (Packet p) = go (ltb p answer.packets) refl
    where
      go : (t : Bool) → ltb p answer.packets ≡ t → pieces_left answer (cursor_after answer (Packet p)) ≤ pieces_left answer (Packet p) - 1
      go true e = rw e (omega (arith, ltb-true p answer.packets e))
      go false e = rw e (omega arith)
  pieces_fewer Done = omega arith

  -- nothing is left only behind all lines
  none_left : (cursor : Cursor) → pieces_left answer cursor ≤ 0 → rest_of answer table flows turns cursor ≡ []
  unfolding pieces_left rest_of
  none_left First h = absurd (omega arith)
  none_left (Packet p) h = absurd (omega arith)
  none_left Done h = refl

  -- as many pieces as are left are the text from a cursor on
  pub pieces_are : (n : ℕ) (cursor : Cursor) → pieces_left answer cursor ≤ n → pieces_of answer table flows turns n cursor ≡ rest_of answer table flows turns cursor
  unfolding pieces_of
  pieces_are zero cursor h = sym (none_left cursor h)
  pieces_are (suc n) cursor h =
      ap (λ (l : List ℕ). piece_at answer table flows turns cursor ++ l)
      (pieces_are n (cursor_after answer cursor) (omega (arith, pieces_fewer cursor)))
      ∙ sym (piece_by_piece cursor)

  -- all pieces are the output text
  pub all_pieces : pieces_of answer table flows turns (answer.packets + 2) First ≡ output_of answer table flows turns
  unfolding rest_of pieces_left
  all_pieces = pieces_are (answer.packets + 2) First (omega arith)

-- ---- what a caller sees

module _ (answer : Answer) (table flows turns before after : List ℕ) (cursor : Cursor) (piece : Piece)
    (p : Printed answer table flows turns before after cursor piece) where
  -- the length of the line is that of the piece
  piece_length : piece.len ≡ length (piece_in (length before) answer table flows turns cursor)
  unfolding piece_of
  piece_length = ap (λ (x : Piece). x.len) p.answer_is

  -- the line lies within the buffer
  pub piece_fits : piece.len ≤ length after
  unfolding in_front
  piece_fits =
      let text = piece_in (length before) answer table flows turns cursor in
      omega (arith, piece_length, ap length p.buffer_is, length-append text (drop (length text) before))

  -- with room for any line, the line at the cursor is what stands in front
  pub line_stands : longest ≤ length before → take piece.len after ≡ piece_at answer table flows turns cursor
  unfolding piece_in in_front
  line_stands h =
      let text = piece_in (length before) answer table flows turns cursor in
      ap (λ (k : ℕ). take k after) piece_length
      ∙ ap (take (length text)) p.buffer_is
      ∙ take-append_seam text (drop (length text) before)
      ∙ rw (le-ltb (length before) longest h)

  -- and the cursor behind it is next
  pub next_stands : longest ≤ length before → piece.next ≡ cursor_after answer cursor
  unfolding piece_of next_in
  next_stands h = ap (λ (x : Piece). x.next) p.answer_is ∙ rw (le-ltb (length before) longest h)
