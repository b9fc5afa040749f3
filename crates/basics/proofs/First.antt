-- Laws of the lowest number that passes, and of "some" and "every" number below n.
-- In order: what `first_from` does; then `first` as the rest of the house uses it (its bounds, that it passes, that none
-- before it does, and how to show that a number is it); then `some` and `every`, each made from and taken apart;
-- then `found`, made from and taken apart.
use mathlib.Core.Path.{◌≡◌, refl, sym, ◌∙◌, ap, ap₂}
use mathlib.Core.Bool.{Bool, true, false, not}
use Prim.Native.Nat.{ℕ, zero, suc, ◌+◌, ◌≤◌, ◌<◌}
use native.Mathlib.Nat.{le_antisymm, lt_of_not-le}
use native.Mathlib.Decide.{dec_le}
use lib.Dec.{ltb}
use native.Mathlib.Omega.{arith}
use borrow.Author.Tests.{ltb-true, ltb-false, lt-ltb, le-ltb, not-true, not-false}
use Rattle.std.proofs.Common.{Option, Some, None}
use Rattle.std.specs.Option.{MatchOption}
use Rattle.basics.specs.Choose.{choose}
use Rattle.basics.specs.First.{first_from, first, some, every, found}

-- ---- `first_from`

-- it lies at or after the start and at or before the end of its range
from_within : (test : ℕ → Bool) (i n : ℕ) → (i ≤ first_from test i n) × (first_from test i n ≤ i + n)
unfolding first_from
from_within test i zero = omega arith
from_within test i (suc n) = go (test i) refl (from_within test (suc i) n)
  where
    go : (b : Bool) → test i ≡ b → (suc i ≤ first_from test (suc i) n) × (first_from test (suc i) n ≤ suc i + n)
        → (i ≤ first_from test i (suc n)) × (first_from test i (suc n) ≤ i + suc n)
    go true e ih = rw (e, first_from) (omega arith)
    go false e ih = rw (e, first_from) (omega arith)

-- below the end of its range it passes
from_passes : (test : ℕ → Bool) (i n : ℕ) → first_from test i n < i + n → test (first_from test i n) ≡ true
unfolding first_from
from_passes test i zero h = absurd (omega arith)
from_passes test i (suc n) h = go (test i) refl (from_passes test (suc i) n) h
  where
    go : (b : Bool) → test i ≡ b → (first_from test (suc i) n < suc i + n → test (first_from test (suc i) n) ≡ true)
        → first_from test i (suc n) < i + suc n → test (first_from test i (suc n)) ≡ true
    go true e ih = rw (e, first_from) (λ _. e)
    go false e ih = rw (e, first_from) (λ k. ih (omega arith))

-- none from the start up to it passes
from_least : (test : ℕ → Bool) (i n j : ℕ) → i ≤ j → j < first_from test i n → test j ≡ false
unfolding first_from
from_least test i zero j h k = absurd (omega arith)
from_least test i (suc n) j h k = go (test i) refl (from_least test (suc i) n j) k
  where
    go : (b : Bool) → test i ≡ b → (suc i ≤ j → j < first_from test (suc i) n → test j ≡ false)
        → j < first_from test i (suc n) → test j ≡ false
    go true e ih = rw (e, first_from) (λ l. absurd (omega arith))
    go false e ih = rw (e, first_from) (λ l. elim (dec_le j i) [ yes a ↦ rw (le_antisymm a h) e | no a ↦ ih (lt_of_not-le a) l ])

-- ---- `first`

-- it is n at most
pub first_le : (test : ℕ → Bool) (n : ℕ) → first test n ≤ n
unfolding first
first_le test n = omega (arith, from_within test 0 n)

-- below n it passes
pub first_passes : (test : ℕ → Bool) (n : ℕ) → first test n < n → test (first test n) ≡ true
unfolding first
first_passes test n h = from_passes test 0 n (omega arith)

-- none before it passes
pub first_least : (test : ℕ → Bool) (n j : ℕ) → j < first test n → test j ≡ false
unfolding first
first_least test n j h = from_least test 0 n j (omega arith) h

differ : (test : ℕ → Bool) (i : ℕ) → test i ≡ true → test i ≡ false → ⊥
differ test i p q = let z : ◌≡◌ true false = sym p ∙ q in let y : ◌≡◌ {A = ℕ} 0 1 = cc in omega arith

-- a number that passes, with none before it, is the first
pub first_is : (test : ℕ → Bool) (n i : ℕ) → i < n → test i ≡ true → ((j : ℕ) → j < i → test j ≡ false) → first test n ≡ i
first_is test n i h p none =
    le_antisymm
    (elim (dec_le (first test n) i) [ yes a ↦ a | no a ↦ absurd (differ test i p (first_least test n i (lt_of_not-le a))) ])
    (elim (dec_le i (first test n)) [
      | yes a ↦ a
      | no a ↦
          absurd (differ test (first test n) (first_passes test n (omega (arith, lt_of_not-le a))) (none (first test n) (lt_of_not-le a)))
    ])

-- where none passes it is n
pub first_none : (test : ℕ → Bool) (n : ℕ) → ((j : ℕ) → j < n → test j ≡ false) → first test n ≡ n
first_none test n none =
    le_antisymm (first_le test n)
    (elim (dec_le n (first test n)) [
      | yes a ↦ a
      | no a ↦
          absurd (differ test (first test n) (first_passes test n (lt_of_not-le a)) (none (first test n) (lt_of_not-le a)))
    ])

-- two tests that agree below n have the same first
pub first_same : (f g : ℕ → Bool) (n : ℕ) → ((i : ℕ) → i < n → f i ≡ g i) → first f n ≡ first g n
first_same f g n same =
    elim (dec_le n (first g n)) [
      | yes a ↦
          first_none f n (λ j h. same j h ∙ first_least g n j (omega arith)) ∙ le_antisymm a (first_le g n)
      | no a ↦
          let l = lt_of_not-le a in
          first_is f n (first g n) l (same (first g n) l ∙ first_passes g n l) (λ j h. same j (omega arith) ∙ first_least g n j h)
    ]

-- ---- `some`

-- a number below n that passes is some
pub some_at : (test : ℕ → Bool) (n i : ℕ) → i < n → test i ≡ true → some test n ≡ true
unfolding some
some_at test n i h p =
    lt-ltb (first test n) n
    (elim (dec_le n (first test n)) [ yes a ↦ absurd (differ test i p (first_least test n i (omega arith))) | no a ↦ lt_of_not-le a ])

-- where none passes there is not some
pub some_none : (test : ℕ → Bool) (n : ℕ) → ((j : ℕ) → j < n → test j ≡ false) → some test n ≡ false
unfolding some
some_none test n none = le-ltb (first test n) n (omega (arith, first_none test n none))

-- where some passes, the first is below n
pub some_first : (test : ℕ → Bool) (n : ℕ) → some test n ≡ true → first test n < n
unfolding some
some_first test n h = ltb-true (first test n) n h

-- where not some passes, none does
pub none_passes : (test : ℕ → Bool) (n : ℕ) → some test n ≡ false → (j : ℕ) → j < n → test j ≡ false
unfolding some
none_passes test n h j k = first_least test n j (omega (arith, ltb-false (first test n) n h))

-- two tests that agree below n agree on "some"
pub some_same : (f g : ℕ → Bool) (n : ℕ) → ((i : ℕ) → i < n → f i ≡ g i) → some f n ≡ some g n
unfolding some
some_same f g n same = ap (λ (k : ℕ). ltb k n) (first_same f g n same)

-- ---- `every`

-- where every number passes, each does
pub every_at : (test : ℕ → Bool) (n : ℕ) → every test n ≡ true → (j : ℕ) → j < n → test j ≡ true
unfolding every
every_at test n h j k = not-false (test j) (none_passes (λ i. not (test i)) n (not-true _ h) j k)

-- where each number passes, every does
pub every_all : (test : ℕ → Bool) (n : ℕ) → ((j : ℕ) → j < n → test j ≡ true) → every test n ≡ true
unfolding every
every_all test n all = ap not (some_none (λ i. not (test i)) n (λ j h. ap not (all j h)))

-- ---- `found`

-- a number that passes, with none before it, is found
pub found_is : (test : ℕ → Bool) (n i : ℕ) → i < n → test i ≡ true → ((j : ℕ) → j < i → test j ≡ false) → found test n ≡ Some i
unfolding found
found_is test n i h p none =
    rw (some_at test n i h p) (ap (λ (k : ℕ). Some k) (first_is test n i h p none))

-- where none passes none is found
pub found_none : (test : ℕ → Bool) (n : ℕ) → ((j : ℕ) → j < n → test j ≡ false) → found test n ≡ None
unfolding found
found_none test n none = rw (some_none test n none) refl

-- a number that is found is the first, and below n
pub found_first : (test : ℕ → Bool) (n i : ℕ) → found test n ≡ Some i → (i < n) × (first test n ≡ i)
unfolding found
found_first test n i e = go (some test n) refl e
  where
    go : (b : Bool) → some test n ≡ b → choose b (Some (first test n)) None ≡ Some i → (i < n) × (first test n ≡ i)
    go true s f = let q : first test n ≡ i = cc in (omega (arith, q, some_first test n s), q)
    go false s f = let z : ◌≡◌ {A = ℕ} 0 1 = cc in absurd (omega arith)

-- where none is found none passes
pub found_not : (test : ℕ → Bool) (n : ℕ) → found test n ≡ None → (j : ℕ) → j < n → test j ≡ false
unfolding found
found_not test n e = go (some test n) refl e
  where
    go : (b : Bool) → some test n ≡ b → choose b (Some (first test n)) None ≡ None → (j : ℕ) → j < n → test j ≡ false
    go true s f = let z : ◌≡◌ {A = ℕ} 0 1 = cc in absurd (omega arith)
    go false s f = none_passes test n s

-- what a search over the numbers from low to n gives is what is found, where none below low passes
pub found_from : (test : ℕ → Bool) (low n : ℕ) (r : Option ℕ) → ((j : ℕ) → j < low → test j ≡ false)
    → MatchOption r ((j : ℕ) → low ≤ j → j < n → test j ≡ false) (λ i. (low ≤ i) × (i < n) × (test i ≡ true) × ((j : ℕ) → low ≤ j → j < i → test j ≡ false))
    → r ≡ found test n
found_from test low n None before none =
    sym (found_none test n (λ j h. elim (dec_le low j) [ yes l ↦ none j l h | no l ↦ before j (lt_of_not-le l) ]))
found_from test low n (Some i) before w =
    sym (found_is test n i w.1 w.2 (λ j h. elim (dec_le low j) [ yes l ↦ w.3 j l h | no l ↦ before j (lt_of_not-le l) ]))

-- two tests that agree below n find the same
pub found_same : (f g : ℕ → Bool) (n : ℕ) → ((i : ℕ) → i < n → f i ≡ g i) → found f n ≡ found g n
unfolding found
found_same f g n same =
    ap₂ (λ (b : Bool) (k : ℕ). choose b (Some k) None) (some_same f g n same) (first_same f g n same)
