-- The search over any list of packets: its table is sound, a complete one passes, and the bound on the passes is never what ends it.
use mathlib.Core.Path.{◌≡◌, refl, sym, ◌∙◌}
use mathlib.Core.Bool.{Bool, true, false, not, false≢true}
use mathlib.Core.List.{List, []}
use Prim.Native.Nat.{ℕ, zero, suc, ◌+◌, ◌<◌}
use native.Mathlib.Decide.{ℕ_discrete}
use native.Mathlib.Omega.{arith}
use lib.ListN.{length, replicate, length-set, length-replicate}
use borrow.Author.Tests.{not-false}
use Rattle.basics.specs.Choose.{as_number}
use Rattle.basics.specs.Sums.{sum_of, count_of}
use Rattle.basics.proofs.Choose.{not_passing}
use Rattle.basics.proofs.Each.{Each, each_map}
use Rattle.packet.specs.Packet.{Packet}
use Rattle.packet.specs.Table.{passes, none, placed}
use Rattle.packet.proofs.Table.{start_inside, meets_higher_lem, meets_collide, passes_all}
use Rattle.order.specs.Order.{sorted}
use Rattle.order.proofs.Ordering.{sorted_below}
use Rattle.passes.specs.Pass.{pass_from, pass_over}
use Rattle.passes.specs.Passes.{passes_from, ceiling, search_from, search_by, skipped_in}
use Rattle.passes.proofs.Along.{along}
use Rattle.passes.proofs.Fuel.{spent_none, over_each, passes_end, passes_on, fuel_same}
use Rattle.passes.proofs.Sound.{Fitting, Safe, safe_start, safe_more}

-- a table of as many places as packets, and sound
record Good (ps : List Packet) (table : List ℕ) : Type 0 where
  pub long : length table ≡ length ps
  pub safe : Safe ps table

-- a table that holds no time
good_start : (ps : List Packet) → Good ps (replicate (length ps) none)
good_start ps = record { long = length-replicate {A = ℕ} (length ps) none; safe = safe_start ps (length ps) }

-- a pass leaves a sound table
pass_good : (ps : List Packet) (f g : ℕ) → Fitting ps → (rest kept fails table : List ℕ) (tries : ℕ) → Each (λ (q : ℕ). q < length ps) rest
    → Good ps table → Good ps (pass_from ps f g rest kept fails table tries).table
pass_good ps f g fitting =
    along ps f g (λ rest kept fails table tries r. Each (λ (q : ℕ). q < length ps) rest → Good ps table → Good ps r.table)
    (λ kept fails table tries each good. good)
    (λ p rest kept fails table tries t m r e ih each good.
    ih each.1
    record {
      long = length-set table p t ∙ good.long;
      safe = safe_more ps f fitting table p t m e each.0 good.long good.safe;
    })
    (λ p rest kept fails table tries m e h each good. good)
    (λ p rest kept fails table tries m r e h ih each good. ih each.1 good)

-- and so do the passes
passes_good : (ps : List Packet) (f g : ℕ) → Fitting ps → (fuel : ℕ) (list fails : List ℕ) (n tries : ℕ) → Each (λ (q : ℕ). q < length ps) list
    → Good ps (passes_from fuel ps f g list fails n tries).table
unfolding passes_from pass_over
passes_good ps f g fitting zero list fails n tries each = good_start ps
passes_good ps f g fitting (suc fuel) list fails n tries each =
    go (pass_over ps f g list fails).whole refl
    (passes_good ps f g fitting fuel (pass_over ps f g list fails).list (pass_over ps f g list fails).fails (n + 1)
    (tries + (pass_over ps f g list fails).tries) (over_each ps f g list fails each))
  where
    go : (w : Bool) → (pass_over ps f g list fails).whole ≡ w
        → Good ps (passes_from fuel ps f g (pass_over ps f g list fails).list (pass_over ps f g list fails).fails (n + 1) (tries + (pass_over ps f g list fails).tries)).table
        → Good ps (passes_from (suc fuel) ps f g list fails n tries).table
    go true w ih = rw (passes_end fuel ps f g list fails n tries w) (pass_good ps f g fitting list [] fails _ 0 each (good_start ps))
    go false w ih = rw (passes_on fuel ps f g list fails n tries w) ih

-- the list at the start holds packets
list_start : (key : ℕ → ℕ) (ps : List Packet) → Each (λ (q : ℕ). q < length ps) (sorted key 0 (length ps))
list_start key ps =
    each_map (λ (q : ℕ). q < 0 + length ps) (λ (q : ℕ). q < length ps) (λ q h. omega arith) (sorted key 0 (length ps))
    (sorted_below key 0 (length ps))

module _ (key : ℕ → ℕ) (ps : List Packet) (f g : ℕ) where
  -- more fuel changes nothing: the bound on the passes is never what ends the search
  pub more_fuel : (extra : ℕ)
      → passes_from (ceiling (length ps) g + extra) ps f g (sorted key 0 (length ps)) (replicate (length ps) 0) 0 0 ≡ search_by key ps f g
  unfolding search_from ceiling
  more_fuel extra =
      fuel_same ps f g (ceiling (length ps) g + extra) (ceiling (length ps) g) (sorted key 0 (length ps)) (replicate (length ps) 0) 0 0
      (list_start key ps) (length-replicate {A = ℕ} (length ps) 0)
      (omega (arith, spent_none (length ps) g)) (omega (arith, spent_none (length ps) g))

  module _ (fitting : Fitting ps) where
    good : Good ps (search_by key ps f g).table
    unfolding search_from
    good = passes_good ps f g fitting (ceiling (length ps) g) (sorted key 0 (length ps)) (replicate (length ps) 0) 0 0 (list_start key ps)

    -- the table has as many places as there are packets
    pub search_length : length (search_by key ps f g).table ≡ length ps
    search_length = good.long

    -- every placed packet is in its start range, and no two placed packets collide
    pub search_safe : Safe ps (search_by key ps f g).table
    search_safe = good.safe

-- ---- a complete search

-- where none is counted, none passes
count_zero : (test : ℕ → Bool) (n : ℕ) → count_of test n ≡ 0 → (q : ℕ) → q < n → test q ≡ false
unfolding count_of sum_of
count_zero test zero e q h = absurd (omega arith)
count_zero test (suc n) e q h =
    elim (ℕ_discrete q n) [
      | yes a ↦ rw a (zero_false (test n) (omega arith))
      | no a ↦ count_zero test n (omega arith) q (omega (arith, a))
    ]
  where
    zero_false : (b : Bool) → as_number b ≡ 0 → b ≡ false
    zero_false true z = absurd (omega arith)
    zero_false false z = refl

-- in a sound table in which every packet is placed, the check passes
pub complete_passes : (ps : List Packet) (table : List ℕ) → Safe ps table → skipped_in ps table ≡ 0 → passes ps table ≡ true
unfolding skipped_in
complete_passes ps table safe none_skipped =
    let all : (q : ℕ) → q < length ps → placed table q ≡ true =
    λ q h. not-false _ (count_zero (λ p. not (placed table p)) (length ps) none_skipped q h) in
    passes_all ps table (λ q h. start_inside ps table q (safe.ranged q h (all q h)))
    (λ a b h k. not_passing _ (λ e.
    let l = meets_higher_lem ps table a b e in
    let z = safe.apart a b h k (λ same. omega arith) (all a h) (all b k) in
    false≢true (sym z ∙ meets_collide ps table a b e)))
