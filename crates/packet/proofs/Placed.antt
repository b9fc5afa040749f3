-- Laws of placed packets: where no time was given, where one more is, and what the place of a packet that is not placed holds.
use mathlib.Core.Path.{◌≡◌, refl, ◌∙◌, ap}
use mathlib.Core.Bool.{true, false, not}
use mathlib.Core.List.{List}
use Prim.Native.Nat.{ℕ, ◌<◌}
use native.Mathlib.Nat.{lt_of_not-le}
use native.Mathlib.Decide.{dec_le}
use native.Mathlib.Omega.{arith}
use lib.Dec.{eqb}
use lib.ListN.{length, get_or, set, replicate, length-replicate, get_or-replicate, get_or-eq_default}
use lib.Seq.{get_or-set_same, get_or-set_other}
use borrow.Author.Tests.{ne_eqb, not-false, eqb-true}
use Rattle.packet.specs.Table.{none, placed}

-- in a table that holds no time nothing is placed
pub nothing_placed : (n q : ℕ) → placed (replicate n none) q ≡ false
unfolding placed
nothing_placed n q =
    elim (dec_le n q) [
      | yes a ↦ rw (get_or-eq_default (replicate n none) none {n = q} (omega (arith, length-replicate n none))) refl
      | no a ↦ rw (get_or-replicate n q none none (lt_of_not-le a)) refl
    ]

-- a packet whose place is given a time is placed
pub placed_new : (table : List ℕ) (p time : ℕ) → p < length table → time < none → placed (set table p time) p ≡ true
unfolding placed
placed_new table p time h soon =
    ap (λ (t : ℕ). not (eqb t none)) (get_or-set_same table p time none h) ∙ ap not (ne_eqb time none (λ e. omega arith))

-- whether another is does not change
pub placed_other : (table : List ℕ) (p time q : ℕ) → (q ≡ p → ⊥) → placed (set table p time) q ≡ placed table q
unfolding placed
placed_other table p time q ne = ap (λ (t : ℕ). not (eqb t none)) (get_or-set_other table p q time none ne)

-- a place that holds no time holds 4,294,967,295
pub skipped_holds : (table : List ℕ) (q : ℕ) → placed table q ≡ false → get_or table q none ≡ none
unfolding placed
skipped_holds table q e = eqb-true (get_or table q none) none (not-false _ e)
