-- Laws of the whole text, at each answer of the reader: too long; line 1, line 2 or a later line bad; or well formed, with what it says.
use mathlib.Core.Path.{◌≡◌, refl, sym, ◌∙◌, ap}
use mathlib.Core.List.{List, ◌∷◌}
use Prim.Native.Nat.{ℕ, ◌+◌, ◌-◌, ◌≤◌, ◌<◌}
use native.Mathlib.Omega.{arith}
use borrow.Author.Tests.{lt-ltb, le-ltb, ne_eqb}
use lib.Dec.{eqb, ltb}
use lib.ListN.{length, get_or, drop}
use Rattle.std.specs.Prelude.{Some, None, Ok, Err}
use Rattle.basics.proofs.Choose.{both_not}
use Rattle.words.specs.Bytes.{bytes}
use Rattle.records.specs.Records.{is_record, numbers_in}
use Rattle.lines.specs.Form.{limit, good_line, bad_line, parts_of, all_numbers, flows_kept}
use Rattle.lines.specs.Steps.{line_from, feed_from, good_from, line_at, flow_lines}
use Rattle.lines.specs.declared.taking.Line.{Line}
use Rattle.lines.specs.declared.flows.Lines.{Lines}
use Rattle.lines.specs.declared.flows.BadLine.{BadLine}
use Rattle.lines.proofs.TextLines.{line_ends, line_from_lem, parts_on, line_bad, line_good}
use Rattle.lines.proofs.FlowLines.{flows_err, flows_ok}
use Rattle.reader.specs.Reader.{mesh_of, well_formed, input_in, input_of}
use Rattle.reader.specs.declared.reading.Input.{Input}
use Rattle.reader.specs.declared.reading.Malformed.TheVariants.{OverLimit, Line as BadAt}

-- ---- the answer by the first bad line

-- a text that is too long
pub too_long_lem : (text : List ℕ) → limit < length text → Err OverLimit ≡ input_of text
unfolding input_of
too_long_lem text h = sym (rw (lt-ltb limit (length text) h))

-- a text with a bad line
input_bad : (text : List ℕ) (n : ℕ) → length text ≤ limit → bad_line 1 (parts_of text) ≡ n → 0 < n → Err (BadAt n) ≡ input_of text
unfolding input_of input_in
input_bad text n h e k = sym (rw (le-ltb limit (length text) h, e, ne_eqb n 0 (omega arith)))

-- a text with none
pub input_good : (text : List ℕ) → length text ≤ limit → bad_line 1 (parts_of text) ≡ 0 → Ok (well_formed (parts_of text)) ≡ input_of text
unfolding input_of input_in
input_good text h e = sym (rw (le-ltb limit (length text) h, e))

-- ---- lines that are good

-- the numbers of a good line, with the place behind it
next_of : (word text : List ℕ) (n at : ℕ) (r : Line n) → line_at word n text at ≡ Some r → r.next ≡ feed_from text at + 1
unfolding good_from
next_of word text n at r e = ap (λ (x : Line n). x.next) (line_from_lem word text n at r e)

numbers_are : (word text : List ℕ) (n at : ℕ) (r : Line n) → line_at word n text at ≡ Some r → r.numbers ≡ numbers_in (line_from text at)
unfolding good_from
numbers_are word text n at r e = ap (λ (x : Line n). x.numbers) (line_from_lem word text n at r e)

-- a good line ends within the text
pub next_within : (word text : List ℕ) (n at : ℕ) (r : Line n) → line_at word n text at ≡ Some r → r.next ≤ length text
next_within word text n at r e = omega (arith, next_of word text n at r e, line_ends word text n at r e)

-- ---- line after line

-- what a well-formed text says, by its numbers
unfoldable pub says : ℕ → ℕ → ℕ → ℕ → ℕ → ℕ → List ℕ → ℕ → Input
says columns rows r flit pruning threshold numbers flows = record {
  mesh = record { columns = columns; rows = rows; r = r; flit = flit };
  pruning = pruning;
  threshold = threshold;
  numbers = numbers;
  flows = flows;
}

-- of the lines of the text
pub says_parts : (line₁ line₂ : List ℕ) (lines parts : List (List ℕ)) → parts ≡ line₁ ∷ line₂ ∷ lines
    → says (get_or (numbers_in line₁) 0 0) (get_or (numbers_in line₁) 1 0) (get_or (numbers_in line₁) 2 0) (get_or (numbers_in line₁) 3 0)
    (get_or (numbers_in line₂) 0 0) (get_or (numbers_in line₂) 1 0) (flows_kept (all_numbers lines)) (length parts - 3)
    ≡ well_formed parts
unfolding says well_formed mesh_of
says_parts line₁ line₂ lines parts e = rw e

module _ (text : List ℕ) (small : length text ≤ limit) where
  mesh_kind : (line : List ℕ) → good_line 1 line ≡ is_record (bytes "mesh") 4 line
  unfolding good_line
  mesh_kind line = refl

  search_kind : (line : List ℕ) → good_line 2 line ≡ is_record (bytes "search") 2 line
  unfolding good_line
  search_kind line = refl

  -- line 1 is bad
  pub first_bad : line_at (bytes "mesh") 4 text 0 ≡ None → Err (BadAt 1) ≡ input_of text
  first_bad e =
      input_bad text 1 small (line_bad (bytes "mesh") text 4 1 0 mesh_kind (omega arith) (both_not (eqb (length text) 0) (ltb 2 1) refl) e) (omega arith)

  module _ (first : Line 4) (e₁ : line_at (bytes "mesh") 4 text 0 ≡ Some first) where
    -- line 2 decides
    from_second : bad_line 1 (parts_of text) ≡ bad_line 2 (parts_of (drop first.next text))
    from_second =
        line_good (bytes "mesh") text 4 1 0 mesh_kind first e₁
        ∙ ap (λ (k : ℕ). bad_line 2 (parts_of (drop k text))) (sym (next_of (bytes "mesh") text 4 0 first e₁))

    -- line 2 is bad
    pub second_bad : line_at (bytes "search") 2 text first.next ≡ None → Err (BadAt 2) ≡ input_of text
    second_bad e =
        input_bad text 2 small
        (from_second
        ∙ line_bad (bytes "search") text 2 2 first.next search_kind (next_within (bytes "mesh") text 4 0 first e₁)
        (both_not (eqb (length (drop first.next text)) 0) (ltb 2 2) refl) e)
        (omega arith)

    module _ (second : Line 2) (e₂ : line_at (bytes "search") 2 text first.next ≡ Some second) where
      -- the flow lines decide
      from_third : bad_line 1 (parts_of text) ≡ bad_line 3 (parts_of (drop second.next text))
      from_third =
          from_second
          ∙ line_good (bytes "search") text 2 2 first.next search_kind second e₂
          ∙ ap (λ (k : ℕ). bad_line 3 (parts_of (drop k text))) (sym (next_of (bytes "search") text 2 first.next second e₂))

      -- a flow line is bad
      pub third_bad : (bad : BadLine) → flow_lines (parts_of (drop second.next text)) ≡ Err bad → Err (BadAt bad.line) ≡ input_of text
      third_bad bad e =
          let named = flows_err (parts_of (drop second.next text)) bad e in
          input_bad text bad.line small (from_third ∙ named.0) named.1

      -- the parts of the text
      parts_are : parts_of text ≡ line_from text 0 ∷ line_from text first.next ∷ parts_of (drop second.next text)
      parts_are =
          parts_on text 0 (line_ends (bytes "mesh") text 4 0 first e₁)
          ∙ ap (λ (k : ℕ). line_from text 0 ∷ parts_of (drop k text)) (sym (next_of (bytes "mesh") text 4 0 first e₁))
          ∙ ap (λ (l : List (List ℕ)). line_from text 0 ∷ l) (parts_on text first.next (line_ends (bytes "search") text 2 first.next second e₂))
          ∙ ap (λ (k : ℕ). line_from text 0 ∷ line_from text first.next ∷ parts_of (drop k text))
          (sym (next_of (bytes "search") text 2 first.next second e₂))

      -- no line is bad
      pub all_good : (rest : Lines) → flow_lines (parts_of (drop second.next text)) ≡ Ok rest
          → Ok (says (get_or first.numbers 0 0) (get_or first.numbers 1 0) (get_or first.numbers 2 0) (get_or first.numbers 3 0)
          (get_or second.numbers 0 0) (get_or second.numbers 1 0) rest.numbers rest.count)
          ≡ input_of text
      all_good rest e =
          let flows = parts_of (drop second.next text) in
          let good = flows_ok flows rest e in
          let kept = sym good.1 in
          let count : rest.count ≡ length (parts_of text) - 3 = omega (arith, ap (λ (x : Lines). x.count) kept, ap length parts_are) in
          rw (
            numbers_are (bytes "mesh") text 4 0 first e₁,
            numbers_are (bytes "search") text 2 first.next second e₂,
            ap (λ (x : Lines). x.numbers) kept,
            count,
          )
          (ap Ok (says_parts (line_from text 0) (line_from text first.next) flows (parts_of text) parts_are) ∙ input_good text small (from_third ∙ good.0))
