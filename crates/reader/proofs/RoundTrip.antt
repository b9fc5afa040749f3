-- A model's lines, printed, read back as the same model. In order: texts with no place of a byte, and how they are split; a line printed,
-- taken apart again; the flow lines; then the whole model.
use mathlib.Core.Path.{◌≡◌, refl, sym, ◌∙◌, ap}
use mathlib.Core.Bool.{Bool, true, false, not}
use mathlib.Core.List.{List, [], ◌∷◌, ◌++◌, map, append_assoc, append-nil}
use Prim.Native.Nat.{ℕ, suc, ◌+◌, ◌-◌, ◌≤◌, ◌<◌}
use native.Mathlib.Omega.{arith}
use borrow.Author.Tests.{lt-ltb, ne_eqb, eq-eqb, not-true}
use lib.Dec.{eqb}
use lib.ListN.{length}
use Rattle.basics.specs.Choose.{both}
use Rattle.basics.proofs.Choose.{both_pass, both_first, both_second}
use Rattle.basics.proofs.Each.{Each}
use Rattle.model.specs.Flows.{per_flow}
use Rattle.model.specs.declared.flows.Mesh.{Mesh}
use Rattle.digits.specs.Numbers.{number_of, is_digit, all_digits, is_number, value_of, decimal}
use Rattle.std.specs.Prelude.{Some, Ok}
use Rattle.digits.proofs.Decimals.{reads_back, decimal_digits}
use Rattle.digits.proofs.Spelling.{digit_low, good_number}
use Rattle.words.specs.Bytes.{bytes, tab, feed, same_bytes}
use Rattle.words.specs.Fields.{field, ended}
use Rattle.records.specs.Records.{onto, split_by, largest, are_numbers, fields_of, is_record, numbers_in}
use Rattle.lines.specs.Form.{limit, good_line, bad_line, parts_of, all_numbers, flows_kept}
use Rattle.lines.proofs.FlowLines.{flow_kind}
use Rattle.lines.proofs.TextLines.{bad_later}
use Rattle.reader.specs.Reader.{input_of}
use Rattle.reader.specs.ModelText.{fields, line_of, flow_text, model_text, all_of}
use Rattle.reader.proofs.WholeText.{says, says_parts, input_good}

-- ---- texts with no place of a byte

-- none of the bytes is the given one
free : ℕ → List ℕ → Bool
free b [] = true
free b (x ∷ xs) = both (not (eqb x b)) (free b xs)

free_append : (b : ℕ) (xs ys : List ℕ) → free b xs ≡ true → free b ys ≡ true → free b (xs ++ ys) ≡ true
unfolding free
free_append b [] ys p q = q
free_append b (x ∷ xs) ys p q =
    both_pass (not (eqb x b)) (free b (xs ++ ys)) (both_first (not (eqb x b)) (free b xs) p)
    (free_append b xs ys (both_second (not (eqb x b)) (free b xs) p) q)

-- such a text in front of the byte is the first part
split_join : (b : ℕ) (xs ys : List ℕ) → free b xs ≡ true → split_by b (xs ++ (b ∷ ys)) ≡ xs ∷ split_by b ys
unfolding free split_by onto
split_join b [] ys p = rw (eq-eqb b b refl, split_by)
split_join b (x ∷ xs) ys p =
    let apart : eqb x b ≡ false = not-true (eqb x b) (both_first (not (eqb x b)) (free b xs) p) in
    rw (apart, split_by) (ap (onto x) (split_join b xs ys (both_second (not (eqb x b)) (free b xs) p)))

-- and by itself the only one
split_free : (b : ℕ) (xs : List ℕ) → free b xs ≡ true → split_by b xs ≡ xs ∷ []
unfolding free split_by onto
split_free b [] p = refl
split_free b (x ∷ xs) p =
    let apart : eqb x b ≡ false = not-true (eqb x b) (both_first (not (eqb x b)) (free b xs) p) in
    rw (apart, split_by) (ap (onto x) (split_free b xs (both_second (not (eqb x b)) (free b xs) p)))

-- digits are no tab and no line feed
digits_free : (b : ℕ) → b < 48 → (xs : List ℕ) → all_digits xs ≡ true → free b xs ≡ true
unfolding free all_digits
digits_free b h [] p = refl
digits_free b h (x ∷ xs) p =
    let low = digit_low x (both_first (is_digit x) (all_digits xs) p) in
    both_pass (not (eqb x b)) (free b xs) (ap not (ne_eqb x b (λ (e : x ≡ b). omega arith))) (digits_free b h xs (both_second (is_digit x) (all_digits xs) p))

-- ---- a line printed

-- the fields behind a word
split_fields : (word numbers : List ℕ) → free tab word ≡ true → split_by tab (word ++ fields numbers) ≡ word ∷ map decimal numbers
unfolding fields field
split_fields word [] w = ap (split_by tab) (append-nil word) ∙ split_free tab word w
split_fields word (n ∷ numbers) w =
    split_join tab word (decimal n ++ fields numbers) w
    ∙ ap (λ (l : List (List ℕ)). word ∷ l) (split_fields (decimal n) numbers (digits_free tab (omega arith) (decimal n) (decimal_digits n)))

-- fields hold no line feed
fields_free : (numbers : List ℕ) → free feed (fields numbers) ≡ true
unfolding fields field free
fields_free [] = refl
fields_free (n ∷ numbers) = free_append feed (tab ∷ decimal n) (fields numbers) (digits_free feed (omega arith) (decimal n) (decimal_digits n)) (fields_free numbers)

-- numbers that fit 32 bits
abbrev pub Fit : List ℕ → Type 0
Fit numbers = Each (λ (n : ℕ). n ≤ largest) numbers

-- a number of 32 bits printed reads back as itself
pub number_reads_back : (n : ℕ) → n ≤ largest → number_of 10 largest (decimal n) ≡ Some n
number_reads_back n h = reads_back 9 largest n h (omega arith)

-- and so does one of 64 bits, in up to 20 digits, as the tries may be
pub tries_read_back : (n : ℕ) → n < 18446744073709551616 → number_of 20 18446744073709551615 (decimal n) ≡ Some n
tries_read_back n h = reads_back 19 18446744073709551615 n (omega arith) (omega arith)

-- each field is a number, and its own value
fields_numbers : (numbers : List ℕ) → Fit numbers → are_numbers (length numbers) (map decimal numbers) ≡ true
unfolding are_numbers
fields_numbers [] f = refl
fields_numbers (n ∷ numbers) f =
    both_pass (is_number 10 largest (decimal n)) (are_numbers (length numbers) (map decimal numbers))
    (good_number 10 largest n (decimal n) (number_reads_back n f.0)).0 (fields_numbers numbers f.1)

fields_values : (numbers : List ℕ) → Fit numbers → map value_of (map decimal numbers) ≡ numbers
fields_values [] f = refl
fields_values (n ∷ numbers) f =
    ap (λ (v : ℕ). v ∷ map value_of (map decimal numbers)) (good_number 10 largest n (decimal n) (number_reads_back n f.0)).1
    ∙ ap (λ (l : List ℕ). n ∷ l) (fields_values numbers f.1)

-- a text is the same as itself
same_self : (xs : List ℕ) → same_bytes xs xs ≡ true
unfolding same_bytes
same_self [] = refl
same_self (x ∷ xs) = both_pass (eqb x x) (same_bytes xs xs) (eq-eqb x x refl) (same_self xs)

module _ (word numbers : List ℕ) (w : free tab word ≡ true) (f : Fit numbers) where
  -- it is a record of its word, with its numbers
  line_record : is_record word (length numbers) (word ++ fields numbers) ≡ true
  unfolding is_record fields_of
  line_record =
      rw (split_fields word numbers w)
      (both_pass (same_bytes word word) (are_numbers (length numbers) (map decimal numbers)) (same_self word) (fields_numbers numbers f))

  line_numbers : numbers_in (word ++ fields numbers) ≡ numbers
  unfolding numbers_in fields_of
  line_numbers = rw (split_fields word numbers w) (fields_values numbers f)

-- it is the first part of the text
line_first : (word numbers text : List ℕ) → free feed word ≡ true → parts_of (line_of word numbers ++ text) ≡ (word ++ fields numbers) ∷ parts_of text
unfolding parts_of line_of ended
line_first word numbers text w =
    ap (split_by feed) (append_assoc (word ++ fields numbers) (feed ∷ []) text)
    ∙ split_join feed (word ++ fields numbers) text (free_append feed word (fields numbers) w (fields_free numbers))

-- ---- the flow lines

-- flows with all their numbers, which fit 32 bits
pub record Flow (numbers : List ℕ) : Type 0 where
  pub whole : length numbers ≡ per_flow
  pub fit : Fit numbers

abbrev pub Flows : List (List ℕ) → Type 0
Flows [] = Unit {0}
Flows (flow ∷ flows) = Flow flow × Flows flows

-- a flow's line is a flow line
flow_good : (count : ℕ) (flow : List ℕ) → Flow flow → good_line (count + 3) (bytes "flow" ++ fields flow) ≡ true
unfolding free
flow_good count flow f =
    flow_kind count (bytes "flow" ++ fields flow)
    ∙ ap (λ (n : ℕ). is_record (bytes "flow") n (bytes "flow" ++ fields flow)) (sym f.whole)
    ∙ line_record (bytes "flow") flow refl f.fit

-- its part, and those behind it
flow_first : (flow : List ℕ) (flows : List (List ℕ)) → parts_of (flow_text (flow ∷ flows)) ≡ (bytes "flow" ++ fields flow) ∷ parts_of (flow_text flows)
unfolding flow_text free
flow_first flow flows = line_first (bytes "flow") flow (flow_text flows) refl

-- none is bad
flows_good : (count : ℕ) (flows : List (List ℕ)) → Flows flows → bad_line (count + 3) (parts_of (flow_text flows)) ≡ 0
unfolding flow_text parts_of split_by bad_line
flows_good count [] f = rw (lt-ltb 2 (count + 3) (omega arith))
flows_good count (flow ∷ flows) f =
    ap (bad_line (count + 3)) (flow_first flow flows)
    ∙ bad_later (count + 3) (bytes "flow" ++ fields flow) (flow_text flows) (flow_good count flow f.0)
    ∙ ap (λ (n : ℕ). bad_line n (parts_of (flow_text flows))) (let n : suc (count + 3) ≡ count + 1 + 3 = omega arith in n)
    ∙ flows_good (count + 1) flows f.1

-- their numbers are the flows'
flows_numbers : (flows : List (List ℕ)) → Flows flows → all_numbers (parts_of (flow_text flows)) ≡ all_of flows
unfolding flow_text parts_of split_by all_numbers numbers_in fields_of all_of free
flows_numbers [] f = refl
flows_numbers (flow ∷ flows) f =
    ap all_numbers (flow_first flow flows)
    ∙ ap (λ (l : List ℕ). l ++ all_numbers (parts_of (flow_text flows))) (line_numbers (bytes "flow") flow refl f.0.fit)
    ∙ ap (λ (l : List ℕ). flow ++ l) (flows_numbers flows f.1)

-- there is a part for each, and the empty one behind the last line feed
flows_parts : (flows : List (List ℕ)) → length (parts_of (flow_text flows)) ≡ suc (length flows)
unfolding flow_text parts_of split_by
flows_parts [] = refl
flows_parts (flow ∷ flows) = ap length (flow_first flow flows) ∙ ap suc (flows_parts flows)

-- ---- the whole model

module _ (mesh : Mesh) (pruning threshold : ℕ) (flows : List (List ℕ)) (small : length (model_text mesh pruning threshold flows) ≤ limit)
    (fit₁ : Fit (mesh.columns ∷ mesh.rows ∷ mesh.r ∷ mesh.flit ∷ [])) (fit₂ : Fit (pruning ∷ threshold ∷ [])) (fit₃ : Flows flows) where
  line₁ : List ℕ
  line₁ = bytes "mesh" ++ fields (mesh.columns ∷ mesh.rows ∷ mesh.r ∷ mesh.flit ∷ [])

  line₂ : List ℕ
  line₂ = bytes "search" ++ fields (pruning ∷ threshold ∷ [])

  -- its parts
  model_first : parts_of (model_text mesh pruning threshold flows) ≡ line₁ ∷ parts_of (line_of (bytes "search") (pruning ∷ threshold ∷ []) ++ flow_text flows)
  unfolding model_text line₁ free
  model_first =
      line_first (bytes "mesh") (mesh.columns ∷ mesh.rows ∷ mesh.r ∷ mesh.flit ∷ [])
      (line_of (bytes "search") (pruning ∷ threshold ∷ []) ++ flow_text flows) refl

  model_second : parts_of (line_of (bytes "search") (pruning ∷ threshold ∷ []) ++ flow_text flows) ≡ line₂ ∷ parts_of (flow_text flows)
  unfolding line₂ free
  model_second = line_first (bytes "search") (pruning ∷ threshold ∷ []) (flow_text flows) refl

  -- no line is bad
  model_good : bad_line 1 (parts_of (model_text mesh pruning threshold flows)) ≡ 0
  unfolding line₁ line₂ good_line free
  model_good =
      ap (bad_line 1) model_first
      ∙ bad_later 1 line₁ (line_of (bytes "search") (pruning ∷ threshold ∷ []) ++ flow_text flows)
      (line_record (bytes "mesh") (mesh.columns ∷ mesh.rows ∷ mesh.r ∷ mesh.flit ∷ []) refl fit₁)
      ∙ ap (bad_line 2) model_second
      ∙ bad_later 2 line₂ (flow_text flows) (line_record (bytes "search") (pruning ∷ threshold ∷ []) refl fit₂)
      ∙ flows_good 0 flows fit₃

  numbers₁ : numbers_in line₁ ≡ mesh.columns ∷ mesh.rows ∷ mesh.r ∷ mesh.flit ∷ []
  unfolding line₁ free
  numbers₁ = line_numbers (bytes "mesh") (mesh.columns ∷ mesh.rows ∷ mesh.r ∷ mesh.flit ∷ []) refl fit₁

  numbers₂ : numbers_in line₂ ≡ pruning ∷ threshold ∷ []
  unfolding line₂ free
  numbers₂ = line_numbers (bytes "search") (pruning ∷ threshold ∷ []) refl fit₂

  -- the model's lines read back as the same model
  pub model_reads_back : input_of (model_text mesh pruning threshold flows) ≡ Ok (record {
    mesh = mesh;
    pruning = pruning;
    threshold = threshold;
    numbers = flows_kept (all_of flows);
    flows = length flows;
  })
  unfolding says
  model_reads_back =
      let parts = model_first ∙ ap (λ (l : List (List ℕ)). line₁ ∷ l) model_second in
      let count : length (parts_of (model_text mesh pruning threshold flows)) - 3 ≡ length flows = omega (arith, ap length parts, flows_parts flows) in
      sym (input_good (model_text mesh pruning threshold flows) small model_good)
      ∙ ap Ok (sym (says_parts line₁ line₂ (parts_of (flow_text flows)) (parts_of (model_text mesh pruning threshold flows)) parts))
      ∙ rw (numbers₁, numbers₂, flows_numbers flows fit₃, count)
