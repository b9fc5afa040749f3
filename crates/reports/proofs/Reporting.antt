-- The table written and counted, as the code does it.
use Rattle.std.proofs.Common.{Option, Some, None}
use mathlib.Core.Path.{◌≡◌, refl, sym, ◌∙◌, ap}
use mathlib.Core.Bool.{Bool, true, false, not}
use mathlib.Core.List.{List}
use Prim.Native.Nat.{ℕ, zero, suc, ◌+◌, ◌≤◌, ◌<◌}
use native.Mathlib.Nat.{add-zero}
use native.Mathlib.Numerals.{add-one}
use native.Mathlib.Omega.{arith}
use lib.Dec.{eqb}
use lib.ListN.{length, get_or, take}
use lib.Seq.{length-take-le}
use borrow.Author.Tests.{ne_eqb}
use Rattle.std.specs.List.{count_by, AllWithin, HoldsAt}
use Rattle.std.specs.Option.{MatchOption}
use Rattle.std.proofs.lemmas.List.{take_all, get_or-take}
use Rattle.std.proofs.lemmas.List.Sums.{count_by_more_yes, count_by_more_no}
use Rattle.basics.specs.Choose.{as_number}
use Rattle.basics.specs.First.{found}
use Rattle.basics.proofs.First.{first_passes, found_from, found_first, found_not, found_same}
use Rattle.basics.specs.Sums.{count_of}
use Rattle.basics.proofs.Sums.{sum_part, count_next, count_none, count_same, none_counted}
use Rattle.packet.specs.Table.{none, placed}
use Rattle.passes.specs.declared.repeat.Outcome.{Outcome}
use Rattle.reports.specs.Reports.{number_for, place_for, report_of}

-- a packet is not placed where its place holds 4,294,967,295
pub unplaced : (times : List ℕ) (p : ℕ) → not (placed times p) ≡ eqb (get_or times p none) none
unfolding placed
unplaced times p = go (eqb (get_or times p none) none)
  where
    go : (b : Bool) → not (not b) ≡ b
    go true = refl
    go false = refl

-- the places of the first i packets that hold it are those of the packets that are not placed
counted_to : (times : List ℕ) (i : ℕ) → i ≤ length times → count_by (λ t. eqb t none) (take i times) ≡ count_of (λ p. not (placed times p)) i
counted_to times zero h = sym (count_none (λ p. not (placed times p)))
counted_to times (suc i) h = rw (← add-one i, count_next) (go (eqb (get_or times i none) none) refl (counted_to times i (omega arith)))
  where
    go : (b : Bool) → eqb (get_or times i none) none ≡ b → count_by (λ t. eqb t none) (take i times) ≡ count_of (λ p. not (placed times p)) i
        → count_by (λ t. eqb t none) (take (i + 1) times) ≡ count_of (λ p. not (placed times p)) i + as_number (not (placed times i))
    go true e before = rw (unplaced times i, e) (count_by_more_yes (λ t. eqb t none) times i none (omega arith) e ∙ ap (λ (n : ℕ). n + 1) before)
    go false e before = rw (unplaced times i, e, add-zero) (count_by_more_no (λ t. eqb t none) times i none (omega arith) e ∙ before)

-- so all that hold it are all packets that are not placed
pub counted : (times : List ℕ) → count_by (λ t. eqb t none) times ≡ count_of (λ p. not (placed times p)) (length times)
counted times =
    ap (count_by (λ t. eqb t none)) (sym (take_all (length times) times (omega arith))) ∙ counted_to times (length times) (omega arith)

-- the place that a search over the places gives is the lowest packet that is not placed
pub lowest : (times : List ℕ) (r : Option ℕ)
    → MatchOption r (AllWithin (λ t. eqb t none ≡ false) times 0 (length times))
    (λ i. (i < length times) × HoldsAt (λ t. eqb t none ≡ true) times i × AllWithin (λ t. eqb t none ≡ false) times 0 i)
    → r ≡ found (λ p. not (placed times p)) (length times)
lowest times None all = found_from (λ p. not (placed times p)) 0 (length times) None (λ j h. absurd (omega arith)) (λ j l h. unplaced times j ∙ all j none l h)
lowest times (Some i) w =
    found_from (λ p. not (placed times p)) 0 (length times) (Some i) (λ j h. absurd (omega arith))
    (omega arith, w.0, unplaced times i ∙ w.1 none, λ j l h. unplaced times j ∙ w.2 j none l h)

-- ---- of the first n places of a table

module _ (times : List ℕ) (n : ℕ) (whole : n ≤ length times) where
  -- they read as all do
  taken : (p : ℕ) → p < length (take n times) → not (placed (take n times) p) ≡ not (placed times p)
  taken p h =
      unplaced (take n times) p ∙ ap (λ (t : ℕ). eqb t none) (get_or-take n times p none (omega (arith, length-take-le n times whole))) ∙ sym (unplaced times p)

  -- the packets counted in them are the first n that are not placed
  pub count_taken : count_of (λ p. not (placed (take n times) p)) (length (take n times)) ≡ count_of (λ p. not (placed times p)) n
  count_taken =
      count_same (λ p. not (placed (take n times) p)) (λ p. not (placed times p)) (length (take n times)) taken
      ∙ ap (count_of (λ p. not (placed times p))) (length-take-le n times whole)

  -- and the one found in them is the lowest of those
  pub found_taken : found (λ p. not (placed (take n times) p)) (length (take n times)) ≡ found (λ p. not (placed times p)) n
  found_taken =
      found_same (λ p. not (placed (take n times) p)) (λ p. not (placed times p)) (length (take n times)) taken
      ∙ ap (found (λ p. not (placed times p))) (length-take-le n times whole)

-- ---- the answer

module _ (found_now : Outcome) (hyper n skipped : ℕ) (e : skipped ≡ count_of (λ p. not (placed found_now.times p)) n) where
  -- none is skipped
  pub report_none : found (λ p. not (placed found_now.times p)) n ≡ None → record {
    number = 0;
    place = 0;
    other = 0;
    hyper = hyper;
    packets = n;
    passes = found_now.passes;
    tries = found_now.tries;
    skipped = skipped;
  }
      ≡ report_of found_now hyper n
  unfolding report_of number_for place_for
  report_none f =
      let z = none_counted (λ p. not (placed found_now.times p)) n (found_not (λ p. not (placed found_now.times p)) n f) in
      rw (e, z) refl

  -- some are
  pub report_some : (low : ℕ) → found (λ p. not (placed found_now.times p)) n ≡ Some low → record {
    number = 13;
    place = low;
    other = 0;
    hyper = hyper;
    packets = n;
    passes = found_now.passes;
    tries = found_now.tries;
    skipped = skipped;
  }
      ≡ report_of found_now hyper n
  unfolding report_of number_for place_for count_of
  report_some low f =
      let test : ℕ → Bool = λ p. not (placed found_now.times p) in
      let own = found_first test n low f in
      let one : test low ≡ true = ap test (sym own.1) ∙ first_passes test n (omega (arith, own.0, own.1)) in
      let z : skipped ≡ 0 → ⊥ = λ z. omega (arith, e, z, ap as_number one, sum_part (λ i. as_number (test i)) low n own.0) in
      sym (rw (sym e, own.1, ne_eqb skipped 0 z) refl)
