-- Laws of the lines of a text, as the reader takes them from place to place. In order: the line at a place, as `read_line` answers it; the
-- parts of the text from there on; then the first bad line, past a bad line and past a good one.
use mathlib.Core.Path.{◌≡◌, refl, sym, ◌∙◌, ap, subst}
use mathlib.Core.Bool.{Bool, true, false}
use mathlib.Core.List.{List, [], ◌∷◌}
use Prim.Native.Nat.{ℕ, suc, ◌+◌, ◌-◌, ◌≤◌, ◌<◌}
use native.Mathlib.Omega.{arith}
use borrow.Author.Tests.{lt-ltb, le-ltb, ltb-true, ltb-false}
use lib.Dec.{ltb, eqb}
use lib.ListN.{length, take, drop, length-drop}
use lib.Seq.{drop-drop, take_all}
use Rattle.std.specs.Prelude.{Option, Some, None}
use Rattle.std.specs.Option.{option_map}
use Rattle.basics.specs.Choose.{both}
use Rattle.basics.proofs.Choose.{both_not, both_first, both_second, chosen_none, chosen_some}
use Rattle.words.specs.Bytes.{feed}
use Rattle.records.specs.Records.{index_of, place_from, is_record, numbers_in, record_of}
use Rattle.records.proofs.Places.{place_none, place_some, index_le, behind, split_at_first, behind_at, behind_end}
use Rattle.records.proofs.Recording.{record_none, record_some}
use Rattle.lines.specs.Form.{good_line, bad_line, parts_of}
use Rattle.lines.specs.Steps.{line_from, feed_from, good_from, line_at}
use Rattle.lines.specs.declared.taking.Line.{Line}

-- ---- the line at a place

module _ (word text : List ℕ) (n at : ℕ) where
  -- no line feed ends it
  pub line_unended : place_from feed text at ≡ None → None ≡ line_at word n text at
  unfolding line_at feed_from
  line_unended e = sym (rw (le-ltb (at + index_of feed (drop at text)) (length text) (place_none feed text at e)))

  module _ (end : ℕ) (e : place_from feed text at ≡ Some end) where
    -- the line is the slice up to its end
    line_slice : take (end - at) (drop at text) ≡ line_from text at
    unfolding line_from
    line_slice = ap (λ (k : ℕ). take k (drop at text)) (let k : end - at ≡ index_of feed (drop at text) = omega (arith, (place_some feed text at end e).0) in k)

    -- it is no record of the word
    pub line_wrong : record_of word n (take (end - at) (drop at text)) ≡ None → None ≡ line_at word n text at
    unfolding line_at
    line_wrong f =
        sym (rw (both_not (ltb (feed_from text at) (length text)) (is_record word n (line_from text at))
        (ap (is_record word n) (sym line_slice) ∙ record_none word (take (end - at) (drop at text)) n f)))

    -- it is one
    pub line_right : (numbers : List ℕ) → record_of word n (take (end - at) (drop at text)) ≡ Some numbers
        → Some (record { numbers = numbers; next = end + 1 }) ≡ line_at word n text at
    unfolding line_at good_from feed_from
    line_right numbers f =
        let place = place_some feed text at end e in
        let good = record_some word (take (end - at) (drop at text)) n numbers f in
        let passes : is_record word n (line_from text at) ≡ true = ap (is_record word n) (sym line_slice) ∙ good.0 in
        let same : numbers_in (line_from text at) ≡ numbers = ap numbers_in (sym line_slice) ∙ good.1 in
        sym (rw (← place.0, lt-ltb end (length text) place.1, passes, same))

-- how many numbers are asked for decides, however that is told
pub line_counted : (word text numbers : List ℕ) (m n at : ℕ) (r : Option ℕ) → m ≡ n
    → line_at word m text at ≡ option_map (λ next. record { numbers = numbers; next = next }) r
    → line_at word n text at ≡ option_map (λ next. record { numbers = numbers; next = next }) r
line_counted word text numbers m n at r e =
    subst (λ (k : ℕ). line_at word k text at ≡ option_map {U = Line k} (λ next. record { numbers = numbers; next = next }) r) e

-- ---- what a line that `read_line` answers says

module _ (word text : List ℕ) (n at : ℕ) where
  -- no good line: no line feed ends it, or it is no record
  line_none : line_at word n text at ≡ None → both (ltb (feed_from text at) (length text)) (is_record word n (line_from text at)) ≡ false
  unfolding line_at
  line_none = chosen_none (both (ltb (feed_from text at) (length text)) (is_record word n (line_from text at))) (good_from n text at)

  -- a good line ends within the text, is a record, and has its numbers
  line_some : (r : Line n) → line_at word n text at ≡ Some r
      → (both (ltb (feed_from text at) (length text)) (is_record word n (line_from text at)) ≡ true) × (good_from n text at ≡ r)
  unfolding line_at
  line_some r = chosen_some (both (ltb (feed_from text at) (length text)) (is_record word n (line_from text at))) (good_from n text at) r

  pub line_ends : (r : Line n) → line_at word n text at ≡ Some r → feed_from text at < length text
  line_ends r e =
      ltb-true (feed_from text at) (length text) (both_first (ltb (feed_from text at) (length text)) (is_record word n (line_from text at)) (line_some r e).0)

  pub line_is : (r : Line n) → line_at word n text at ≡ Some r → is_record word n (line_from text at) ≡ true
  line_is r e = both_second (ltb (feed_from text at) (length text)) (is_record word n (line_from text at)) (line_some r e).0

  pub line_from_lem : (r : Line n) → line_at word n text at ≡ Some r → r ≡ good_from n text at
  line_from_lem r e = sym (line_some r e).1

-- ---- the parts from a place on

module _ (text : List ℕ) (at : ℕ) where
  -- a line that a line feed ends is the first part
  pub parts_on : feed_from text at < length text → parts_of (drop at text) ≡ line_from text at ∷ parts_of (drop (feed_from text at + 1) text)
  unfolding parts_of line_from feed_from
  parts_on h =
      split_at_first feed (drop at text)
      ∙ ap (λ (l : List ℕ). take (index_of feed (drop at text)) (drop at text) ∷ behind feed l) (drop-drop (index_of feed (drop at text)) at text)
      ∙ ap (λ (l : List (List ℕ)). take (index_of feed (drop at text)) (drop at text) ∷ l) (behind_at feed text (at + index_of feed (drop at text)) h)

  -- what no line feed ends is the only one
  pub parts_last : at ≤ length text → length text ≤ feed_from text at → parts_of (drop at text) ≡ drop at text ∷ []
  unfolding parts_of feed_from
  parts_last h k =
      let long : length (drop at text) ≤ index_of feed (drop at text) = omega (arith, length-drop at text) in
      let whole : index_of feed (drop at text) ≡ length (drop at text) = omega (arith, index_le feed (drop at text)) in
      split_at_first feed (drop at text)
      ∙ ap (λ (l : List ℕ). l ∷ behind feed (drop (index_of feed (drop at text)) (drop at text))) (take_all (index_of feed (drop at text)) (drop at text) long)
      ∙ ap (λ (l : List (List ℕ)). drop at text ∷ l) (behind_end feed (drop at text) (index_of feed (drop at text)) whole)

-- ---- the first bad line

-- there is a first part
parts_first : (text : List ℕ) → parts_of text ≡ take (index_of feed text) text ∷ behind feed (drop (index_of feed text) text)
unfolding parts_of
parts_first text = split_at_first feed text

-- a bad line is the first
bad_here : (n : ℕ) (part text : List ℕ) → good_line n part ≡ false → bad_line n (part ∷ parts_of text) ≡ n
unfolding bad_line
bad_here n part text e = rw (parts_first text, e, bad_line)

-- a good line leaves the others
pub bad_later : (n : ℕ) (part text : List ℕ) → good_line n part ≡ true → bad_line n (part ∷ parts_of text) ≡ bad_line (suc n) (parts_of text)
unfolding bad_line
bad_later n part text e = rw (parts_first text, e, bad_line)

-- line n, whose kind is the record of a word and so many numbers
module _ (word text : List ℕ) (m n at : ℕ) (kind : (line : List ℕ) → good_line n line ≡ is_record word m line) where
  -- a line that is not good is the first bad one, unless it is empty and may be absent
  pub line_bad : at ≤ length text → both (eqb (length (drop at text)) 0) (ltb 2 n) ≡ false → line_at word m text at ≡ None
      → bad_line n (parts_of (drop at text)) ≡ n
  unfolding bad_line
  line_bad h k e = go (ltb (feed_from text at) (length text)) refl
    where
      go : (t : Bool) → ltb (feed_from text at) (length text) ≡ t → bad_line n (parts_of (drop at text)) ≡ n
      go true f =
          ap (bad_line n) (parts_on text at (ltb-true (feed_from text at) (length text) f))
          ∙ bad_here n (line_from text at) (drop (feed_from text at + 1) text) (kind (line_from text at) ∙ (rw f at (line_none word text m at e)))
      go false f = ap (bad_line n) (parts_last text at h (ltb-false (feed_from text at) (length text) f)) ∙ rw k

  -- behind a good line the first bad one is the same
  pub line_good : (r : Line m) → line_at word m text at ≡ Some r
      → bad_line n (parts_of (drop at text)) ≡ bad_line (suc n) (parts_of (drop (feed_from text at + 1) text))
  line_good r e =
      ap (bad_line n) (parts_on text at (line_ends word text m at r e))
      ∙ bad_later n (line_from text at) (drop (feed_from text at + 1) text) (kind (line_from text at) ∙ line_is word text m at r e)
