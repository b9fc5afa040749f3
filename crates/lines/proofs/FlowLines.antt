-- Laws of the flow lines, as the loop over them meets them. `Flowing` is what the loop knows between two lines; then a bad line, a good
-- one, and the end.
use mathlib.Core.Path.{◌≡◌, refl, sym, ◌∙◌, ap}
use mathlib.Core.Bool.{Bool, true, false}
use mathlib.Core.List.{List, [], ◌∷◌, ◌++◌, append_assoc, append-nil}
use Prim.Native.Nat.{ℕ, suc, ◌+◌, ◌-◌, ◌*◌, ◌≤◌, ◌<◌}
use native.Mathlib.Omega.{arith}
use borrow.Author.Tests.{lt-ltb, ne_eqb, eqb-true, eqb-false}
use lib.Dec.{eqb}
use lib.ListN.{length, drop, length-append, length-drop}
use lib.Seq.{drop-length}
use Rattle.std.specs.Prelude.{Result, Some, None, Ok, Err}
use Rattle.basics.specs.Choose.{choose}
use Rattle.model.specs.Flows.{per_flow}
use Rattle.words.specs.Bytes.{bytes}
use Rattle.records.specs.Records.{split_by, fields_of, is_record, numbers_in}
use Rattle.records.proofs.Recording.{record_count}
use Rattle.lines.specs.Form.{limit, good_line, bad_line, parts_of, all_numbers, flows_kept}
use Rattle.lines.specs.Steps.{line_from, feed_from, good_from, line_at, stored_at, with_line, flow_lines}
use Rattle.lines.specs.declared.taking.Line.{Line}
use Rattle.lines.specs.declared.flows.Lines.{Lines}
use Rattle.lines.specs.declared.flows.BadLine.{BadLine}
use Rattle.lines.proofs.TextLines.{line_ends, line_is, line_from_lem, parts_on, line_bad, line_good}
use Rattle.lines.proofs.Keeping.{kept_more}

-- ---- the flow lines by their first bad line

-- every line from the third on is a flow line
pub flow_kind : (count : ℕ) (line : List ℕ) → good_line (count + 3) line ≡ is_record (bytes "flow") per_flow line
unfolding good_line
flow_kind count line = rw (ne_eqb (count + 3) 1 (omega arith), ne_eqb (count + 3) 2 (omega arith))

-- there is one
flows_bad : (parts : List (List ℕ)) (n : ℕ) → 0 < n → bad_line 3 parts ≡ n → Err (record { line = n }) ≡ flow_lines parts
unfolding flow_lines
flows_bad parts n h e = sym (rw (e, ne_eqb n 0 (omega arith)))

-- there is none
flows_good : (parts : List (List ℕ)) → bad_line 3 parts ≡ 0
    → Ok (record { numbers = flows_kept (all_numbers parts); count = length parts - 1 }) ≡ flow_lines parts
unfolding flow_lines
flows_good parts e = sym (rw e)

-- the answer says which
pub flows_err : (parts : List (List ℕ)) (bad : BadLine) → flow_lines parts ≡ Err bad → (bad_line 3 parts ≡ bad.line) × (0 < bad.line)
unfolding flow_lines
flows_err parts bad = go (eqb (bad_line 3 parts) 0) refl
  where
    go : (t : Bool) → eqb (bad_line 3 parts) 0 ≡ t
        → choose {X = Result Lines BadLine} t (Ok (record { numbers = flows_kept (all_numbers parts); count = length parts - 1 })) (Err (record { line = bad_line 3 parts })) ≡ Err bad
        → (bad_line 3 parts ≡ bad.line) × (0 < bad.line)
    go true f e = let z : ◌≡◌ {A = ℕ} 0 1 = cc in absurd (omega arith)
    go false f e =
        let h : record { line = bad_line 3 parts } ≡ bad = cc in
        let same = ap (λ (x : BadLine). x.line) h in
        (same, omega (arith, eqb-false (bad_line 3 parts) 0 f, same))

pub flows_ok : (parts : List (List ℕ)) (lines : Lines) → flow_lines parts ≡ Ok lines
    → (bad_line 3 parts ≡ 0) × (record { numbers = flows_kept (all_numbers parts); count = length parts - 1 } ≡ lines)
unfolding flow_lines
flows_ok parts lines = go (eqb (bad_line 3 parts) 0) refl
  where
    go : (t : Bool) → eqb (bad_line 3 parts) 0 ≡ t
        → choose {X = Result Lines BadLine} t (Ok (record { numbers = flows_kept (all_numbers parts); count = length parts - 1 })) (Err (record { line = bad_line 3 parts })) ≡ Ok lines
        → (bad_line 3 parts ≡ 0) × (record { numbers = flows_kept (all_numbers parts); count = length parts - 1 } ≡ lines)
    go true f e = (eqb-true (bad_line 3 parts) 0 f, cc)
    go false f e = let z : ◌≡◌ {A = ℕ} 0 1 = cc in absurd (omega arith)

-- ---- the loop

-- so many flows are read, and the numbers of the first of them are kept; the lines from `at` on decide, and hold the other numbers
pub record Flowing (text : List ℕ) (from at : ℕ) (read : Lines) : Type 0 where
  pub within : at ≤ length text
  pub small : length text ≤ limit
  pub few : read.count ≤ at
  pub done : List ℕ
  pub size : length done ≡ per_flow * read.count
  pub array : read.numbers ≡ flows_kept done
  pub bad : bad_line (read.count + 3) (parts_of (drop at text)) ≡ bad_line 3 (parts_of (drop from text))
  pub values : done ++ all_numbers (parts_of (drop at text)) ≡ all_numbers (parts_of (drop from text))
  pub lines : read.count + length (parts_of (drop at text)) ≡ length (parts_of (drop from text))

-- none is read yet
pub flowing_begins : (text : List ℕ) (from : ℕ) (numbers : List ℕ) → from ≤ length text → length text ≤ limit → numbers ≡ flows_kept []
    → Flowing text from from (record { numbers = numbers; count = 0 })
flowing_begins text from numbers h k e = record {
  within = h;
  small = k;
  few = omega arith;
  done = [];
  size = refl;
  array = e;
  bad = refl;
  values = refl;
  lines = omega arith;
}

module _ (text : List ℕ) (from at : ℕ) (read : Lines) (s : Flowing text from at read) where
  -- behind the last line feed nothing is left
  flowing_last : length text ≤ at → parts_of (drop at text) ≡ [] ∷ []
  unfolding parts_of split_by
  flowing_last h =
      ap (λ (k : ℕ). parts_of (drop k text)) (let e : at ≡ length text = omega (arith, s.within) in e) ∙ ap parts_of (drop-length text)

  -- no line was bad
  flowing_none : length text ≤ at → bad_line 3 (parts_of (drop from text)) ≡ 0
  unfolding bad_line
  flowing_none h = sym s.bad ∙ ap (bad_line (read.count + 3)) (flowing_last h) ∙ rw (lt-ltb 2 (read.count + 3) (omega arith))

  -- all numbers are read
  flowing_all : length text ≤ at → s.done ≡ all_numbers (parts_of (drop from text))
  unfolding all_numbers numbers_in fields_of split_by
  flowing_all h =
      sym (append-nil s.done) ∙ ap (λ (l : List (List ℕ)). s.done ++ all_numbers l) (sym (flowing_last h)) ∙ s.values

  -- the text ends
  pub flowing_ends : length text ≤ at → Ok read ≡ flow_lines (parts_of (drop from text))
  flowing_ends h =
      let lines : read.count ≡ length (parts_of (drop from text)) - 1 = omega (arith, s.lines, ap length (flowing_last h)) in
      ap (λ (l : List ℕ). Ok (record { numbers = l; count = read.count })) (s.array ∙ ap flows_kept (flowing_all h))
      ∙ ap (λ (k : ℕ). Ok (record { numbers = flows_kept (all_numbers (parts_of (drop from text))); count = k })) lines
      ∙ flows_good (parts_of (drop from text)) (flowing_none h)

  -- a bad line
  pub flowing_bad : at < length text → line_at (bytes "flow") per_flow text at ≡ None → Err (record { line = read.count + 3 }) ≡ flow_lines (parts_of (drop from text))
  flowing_bad h e =
      let some : eqb (length (drop at text)) 0 ≡ false = ne_eqb (length (drop at text)) 0 (omega (arith, length-drop at text)) in
      flows_bad (parts_of (drop from text)) (read.count + 3) (omega arith)
      (sym s.bad ∙ line_bad (bytes "flow") text per_flow (read.count + 3) at (flow_kind read.count) s.within (rw some) e)

  module _ (r : Line per_flow) (e : line_at (bytes "flow") per_flow text at ≡ Some r) where
    -- the place behind a good line
    flowing_next : r.next ≡ feed_from text at + 1
    unfolding good_from
    flowing_next = ap (λ (x : Line per_flow). x.next) (line_from_lem (bytes "flow") text per_flow at r e)

    -- less of the text is left behind it
    pub flowing_less : length text - r.next < length text - at
    unfolding feed_from
    flowing_less = omega (arith, flowing_next, line_ends (bytes "flow") text per_flow at r e)

    -- the numbers of a good line
    flowing_numbers : r.numbers ≡ numbers_in (line_from text at)
    unfolding good_from
    flowing_numbers = ap (λ (x : Line per_flow). x.numbers) (line_from_lem (bytes "flow") text per_flow at r e)

    -- a good line
    pub flowing_on : Flowing text from r.next (with_line read r.numbers)
    unfolding all_numbers feed_from with_line
    flowing_on =
        let line = line_from text at in
        let size : length (numbers_in line) ≡ per_flow = record_count (bytes "flow") line per_flow (line_is (bytes "flow") text per_flow at r e) in
        let ends = line_ends (bytes "flow") text per_flow at r e in
        let next = flowing_next in
        let on : parts_of (drop at text) ≡ line ∷ parts_of (drop r.next text) =
        parts_on text at ends ∙ ap (λ (k : ℕ). line ∷ parts_of (drop k text)) (sym next) in
        record {
          within = omega (arith, next);
          small = s.small;
          few = omega (arith, next, s.few);
          done = s.done ++ numbers_in line;
          size = omega (arith, length-append s.done (numbers_in line), size, s.size);
          array =
              ap (λ (l : List ℕ). stored_at l read.count r.numbers) s.array
              ∙ ap (stored_at (flows_kept s.done) read.count) flowing_numbers
              ∙ kept_more s.done (numbers_in line) read.count s.size size;
          bad =
              ap (λ (k : ℕ). bad_line k (parts_of (drop r.next text))) (let k : read.count + 1 + 3 ≡ suc (read.count + 3) = omega arith in k)
              ∙ ap (λ (k : ℕ). bad_line (suc (read.count + 3)) (parts_of (drop k text))) next
              ∙ sym (line_good (bytes "flow") text per_flow (read.count + 3) at (flow_kind read.count) r e)
              ∙ s.bad;
          values =
              append_assoc s.done (numbers_in line) (all_numbers (parts_of (drop r.next text)))
              ∙ ap (λ (l : List (List ℕ)). s.done ++ all_numbers l) (sym on)
              ∙ s.values;
          lines = omega (arith, s.lines, ap length on);
        }
