-- Laws of a line as a record, as the walk from field to field meets them. In order: the fields that are left, as `split` gives them; the
-- word; `Walked`, which is what the walk knows between two fields, with each way on from it or out of it; how many numbers a record has.
use mathlib.Core.Path.{◌≡◌, refl, sym, ◌∙◌, ap, subst}
use mathlib.Core.Bool.{Bool, true, false, false≢true, ◌&&◌}
use mathlib.Core.List.{List, [], ◌∷◌, ◌++◌, map, tail, append_assoc, append-nil}
use Prim.Native.Nat.{ℕ, zero, suc, ◌+◌, ◌-◌, ◌≤◌, ◌<◌}
use native.Mathlib.Omega.{arith}
use denote.Param.Members.{Mut}
use denote.Ref.{Bor}
use lib.Dec.{eqb}
use lib.Pointwise.{pointwise}
use lib.ListN.{length, get_or, set, take, length-map}
use lib.Seq.{take_all}
use Rattle.std.specs.Prelude.{Some, None, cond}
use Rattle.std.specs.Bool.{MatchBool}
use Rattle.std.specs.Fn.{ComputesKey, CalledAt}
use Rattle.std.specs.List.{All, slice_split, onto_first, IsFirstMatchOrLen}
use Rattle.std.proofs.lemmas.Fn.{always_returns_same}
use Rattle.std.proofs.lemmas.Grind.{common_steps}
use Rattle.std.proofs.lemmas.List.{length-set, take_more_set}
use Rattle.std.proofs.lemmas.List.Splits.{slice_split_none, slice_split_at}
use Rattle.basics.specs.Choose.{both}
use Rattle.basics.proofs.Choose.{both_second, chosen_none, chosen_some}
use Rattle.digits.specs.Numbers.{is_number, value_of, number_of}
use Rattle.digits.proofs.Spelling.{bad_number, good_number}
use Rattle.words.specs.Bytes.{tab, same_bytes}
use Rattle.records.specs.Records.{onto, split_by, largest, are_numbers, fields_of, is_record, numbers_in, record_of}
use Rattle.records.proofs.Places.{split_at_first}

-- ---- the fields that are left

-- of what is left of a line, unless its last field is taken
unfoldable pub left : Bool → List ℕ → List (List ℕ)
left done rest = cond done [] (split_by tab rest)

-- a byte in front of the first part, as `split` has it
onto_is : (x : ℕ) (parts : List (List ℕ)) → onto x parts ≡ onto_first x parts
unfolding onto
onto_is x [] = refl
onto_is x (part ∷ parts) = refl

-- a text split at a byte, as `split` gives it
split_is : (b : ℕ) (xs : List ℕ) → split_by b xs ≡ slice_split (λ x. eqb x b) xs
unfolding split_by
split_is b [] = refl
split_is b (x ∷ xs) = go (eqb x b) (split_is b xs)
  where
    go : (t : Bool) → split_by b xs ≡ slice_split (λ y. eqb y b) xs
        → elim t [ true ↦ [] ∷ split_by b xs | false ↦ onto x (split_by b xs) ]
        ≡ cond t ([] ∷ slice_split (λ y. eqb y b) xs) (onto_first x (slice_split (λ y. eqb y b) xs))
    go true e = ap (λ (l : List (List ℕ)). [] ∷ l) e
    go false e = ap (onto x) e ∙ onto_is x (slice_split (λ y. eqb y b) xs)

-- the test that `split` runs at each byte
abbrev pub at_tab : ℕ → Bool
at_tab b = eqb b tab

-- a closure that tests for a tab computes that test
computes : {F : Type 0} (g : Mut F (Bor ℕ × Unit {0}) Bool) (f : F) → ((x : ℕ) (r : Bool) (q : F) → CalledAt g f x r q → (q ≡ f) × (r ≡ at_tab x))
    → ComputesKey g at_tab f
computes g f tests =
    always_returns_same g (λ a r. r ≡ at_tab a.0.now) f
    (λ a r q k. let m = tests a.0.now r q (record { shown = a.0; shows = refl; called = k }) in (m.1, m.0))

-- a field taken is the first of those left, and the others are left
left_next : (before : Bool) (rest field on : List ℕ) (done : Bool) → before ≡ false
    → MatchBool done (rest ≡ field) ((y : ℕ) × (rest ≡ field ++ (y ∷ on))) → IsFirstMatchOrLen at_tab rest (length field)
    → left before rest ≡ field ∷ left done on
unfolding left
left_next before rest field on true b e h =
    rw b
    (split_is tab rest ∙ ap (slice_split at_tab) e
    ∙ slice_split_none at_tab field (λ k d l. subst (λ ys. at_tab (get_or ys k d) ≡ false) e (h.0 k d (omega arith) l)))
left_next before rest field on false b e h =
    let front : All (λ z. at_tab z ≡ false) field = λ k d l. let a = h.0 k d (omega arith) l in let b = e.1 in grind (arith, common_steps) in
    let hit : at_tab e.0 ≡ true = let b = e.1 in let a = h.1 (grind (arith, common_steps)) e.0 in grind (arith, common_steps) in
    rw b
    (split_is tab rest ∙ ap (slice_split at_tab) e.1 ∙ slice_split_at at_tab field e.0 on front hit
    ∙ ap (λ (l : List (List ℕ)). field ∷ l) (sym (split_is tab on)))

-- the same of what `next` of a `split` at tabs says of a field taken
pub left_taken : {F : Type 0} (g : Mut F (Bor ℕ × Unit {0}) Bool) (f q : F) (before : Bool) (rest field on : List ℕ) (done : Bool)
    → (before ≡ false) × MatchBool done (rest ≡ field) ((y : ℕ) × (rest ≡ field ++ (y ∷ on)))
    × ((p : ℕ → Bool) → ComputesKey g p f → ComputesKey g p q × IsFirstMatchOrLen p rest (length field))
    → ((x : ℕ) (r : Bool) (h : F) → CalledAt g f x r h → (h ≡ f) × (r ≡ at_tab x)) → left before rest ≡ field ∷ left done on
left_taken g f q before rest field on done steps tests = left_next before rest field on done steps.0 steps.1 (steps.2 at_tab (computes g f tests)).1

-- none is left where the last is taken, else one is
pub left_none : (done : Bool) (rest : List ℕ) → done ≡ true → left done rest ≡ []
unfolding left
left_none done rest e = rw e

pub left_some : (done : Bool) (rest : List ℕ) → done ≡ false → left done rest ≡ [] → ⊥
unfolding left
left_some done rest e f = let g : split_by tab rest ≡ [] = rw e at f in let h = sym (split_at_first tab rest) ∙ g in cc

-- ---- the whole line by its test

-- a line that fails is no record
not_record : (word line : List ℕ) (n : ℕ) → is_record word n line ≡ false → None ≡ record_of word n line
unfolding record_of
not_record word line n e = sym (rw e)

-- a line that passes is a record with its numbers
a_record : (word line : List ℕ) (n : ℕ) → is_record word n line ≡ true → Some (numbers_in line) ≡ record_of word n line
unfolding record_of
a_record word line n e = sym (rw e)

-- ---- the walk

-- i numbers are read, and stand first of the n; the fields that are left decide, and hold the other numbers
pub record Walked (word line : List ℕ) (n : ℕ) (rest : List (List ℕ)) (numbers : List ℕ) (i : ℕ) : Type 0 where
  pub within : i ≤ n
  pub room : length numbers ≡ n
  pub test : are_numbers (n - i) rest ≡ is_record word n line
  pub values : take i numbers ++ map value_of rest ≡ numbers_in line

-- ---- the word

-- two texts are the same, as `==` tests it
same_is : (xs ys : List ℕ) → same_bytes xs ys ≡ pointwise eqb xs ys
unfolding same_bytes
same_is [] [] = refl
same_is [] (y ∷ ys) = refl
same_is (x ∷ xs) [] = refl
same_is (x ∷ xs) (y ∷ ys) = go (eqb x y) (same_is xs ys)
  where
    go : (t : Bool) → same_bytes xs ys ≡ pointwise eqb xs ys → both t (same_bytes xs ys) ≡ (t && pointwise eqb xs ys)
    go true e = e
    go false e = refl

module _ (word line field text : List ℕ) (n : ℕ) (rest : List (List ℕ)) (before : Bool) (begun : before ≡ false) (same : text ≡ line)
    (e : left before text ≡ field ∷ rest) where
  -- the fields of the line
  fields_are : fields_of line ≡ field ∷ rest
  unfolding fields_of left
  fields_are = ap (split_by tab) (sym same) ∙ (rw begun at e)

  -- another word
  pub wrong_word : pointwise eqb field word ≡ false → None ≡ record_of word n line
  unfolding is_record
  wrong_word w = not_record word line n (rw (fields_are, same_is field word ∙ w))

  -- the word, and no number is read
  pub walk_begins : (numbers : List ℕ) → length numbers ≡ n → pointwise eqb field word ≡ true → Walked word line n rest numbers 0
  unfolding is_record numbers_in
  walk_begins numbers room w = record {
    within = omega arith;
    room = room;
    test = ap (λ (m : ℕ). are_numbers m rest) (let m : n - 0 ≡ n = omega arith in m) ∙ sym (rw (fields_are, same_is field word ∙ w));
    values = sym (rw fields_are);
  }

-- ---- the numbers

module _ (word line : List ℕ) (n : ℕ) (rest : List (List ℕ)) (numbers : List ℕ) (i : ℕ) (s : Walked word line n rest numbers i) where
  -- a field is missing
  pub walk_short : i < n → rest ≡ [] → None ≡ record_of word n line
  unfolding are_numbers
  walk_short h e =
      let more : n - i ≡ suc (n - (i + 1)) = omega arith in
      not_record word line n (sym s.test ∙ rw (more, e))

  -- there is a field too many
  pub walk_long : n ≤ i → (rest ≡ [] → ⊥) → None ≡ record_of word n line
  unfolding are_numbers
  walk_long h some =
      let none : n - i ≡ 0 = omega arith in
      not_record word line n (sym s.test ∙ rw none (go rest some))
    where
      go : (l : List (List ℕ)) → (l ≡ [] → ⊥) → are_numbers 0 l ≡ false
      go [] h = absurd (h refl)
      go (field ∷ l) h = refl

  -- the line ends behind its last number
  pub walk_ends : n ≤ i → rest ≡ [] → Some numbers ≡ record_of word n line
  unfolding are_numbers
  walk_ends h e =
      let none : n - i ≡ 0 = omega arith in
      let whole : numbers ≡ numbers_in line =
      sym (take_all i numbers (omega (arith, s.room))) ∙ sym (append-nil (take i numbers))
      ∙ ap (λ (l : List (List ℕ)). take i numbers ++ map value_of l) (sym e) ∙ s.values in
      ap (λ (l : List ℕ). Some l) whole ∙ a_record word line n (sym s.test ∙ rw (none, e))

  module _ (h : i < n) (field : List ℕ) (on : List (List ℕ)) (e : rest ≡ field ∷ on) where
    one_more : are_numbers (n - i) rest ≡ both (is_number 10 largest field) (are_numbers (n - (i + 1)) on)
    unfolding are_numbers
    one_more =
        let more : n - i ≡ suc (n - (i + 1)) = omega arith in
        rw (more, e)

    -- the next field is no number
    pub walk_bad : number_of 10 largest field ≡ None → None ≡ record_of word n line
    walk_bad b = not_record word line n (sym s.test ∙ one_more ∙ rw (bad_number 10 largest field b))

    -- it is a number
    pub walk_on : (value : ℕ) → number_of 10 largest field ≡ Some value → Walked word line n on (set numbers i value) (i + 1)
    walk_on value g =
        let good = good_number 10 largest value field g in
        record {
          within = omega arith;
          room = length-set numbers i value ∙ s.room;
          test = sym (one_more ∙ rw good.0) ∙ s.test;
          values =
              ap (λ (l : List ℕ). l ++ map value_of on) (take_more_set numbers i value (omega (arith, s.room)))
              ∙ append_assoc (take i numbers) (value ∷ []) (map value_of on)
              ∙ ap (λ (v : ℕ). take i numbers ++ (v ∷ map value_of on)) (sym good.1)
              ∙ ap (λ (x : List (List ℕ)). take i numbers ++ map value_of x) (sym e)
              ∙ s.values;
        }

-- ---- the whole line by what was read

-- no record fails the test
pub record_none : (word line : List ℕ) (n : ℕ) → record_of word n line ≡ None → is_record word n line ≡ false
unfolding record_of
record_none word line n = chosen_none (is_record word n line) (numbers_in line)

-- a record passes it, and has the line's numbers
pub record_some : (word line : List ℕ) (n : ℕ) (numbers : List ℕ) → record_of word n line ≡ Some numbers
    → (is_record word n line ≡ true) × (numbers_in line ≡ numbers)
unfolding record_of
record_some word line n numbers = chosen_some (is_record word n line) (numbers_in line) numbers

-- ---- how many numbers a record has

-- fields that are so many numbers are so many
numbers_count : (n : ℕ) (fields : List (List ℕ)) → are_numbers n fields ≡ true → length fields ≡ n
unfolding are_numbers
numbers_count zero [] e = refl
numbers_count zero (field ∷ fields) e = absurd (false≢true e)
numbers_count (suc n) [] e = absurd (false≢true e)
numbers_count (suc n) (field ∷ fields) e = ap suc (numbers_count n fields (both_second (is_number 10 largest field) (are_numbers n fields) e))

-- a record has as many numbers as its kind
pub record_count : (word line : List ℕ) (n : ℕ) → is_record word n line ≡ true → length (numbers_in line) ≡ n
unfolding is_record numbers_in
record_count word line n e =
    length-map (tail (fields_of line)) value_of
    ∙ numbers_count n (tail (fields_of line)) (both_second (same_bytes (get_or (fields_of line) 0 []) word) (are_numbers n (tail (fields_of line))) e)
