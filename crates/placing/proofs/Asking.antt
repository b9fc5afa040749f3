-- What placing a packet asks is what its resuming and its sweep ask, from a packet before which all are over, once the links of its path
-- are marked.
use mathlib.Core.Path.{◌≡◌, sym, ◌∙◌, ap, subst}
use mathlib.Core.List.{List}
use Prim.Native.Nat.{ℕ, ◌+◌, ◌-◌, ◌≤◌, ◌<◌}
use native.Mathlib.Omega.{arith}
use lib.ListN.{length, get_or}
use Rattle.load.specs.Load.{flow_at, release_at}
use Rattle.load.specs.declared.traffic.Traffic.{Traffic}
use Rattle.kept.specs.Kept.{start_of, spot_of}
use Rattle.kept.specs.declared.finding.Taken.{Taken}
use Rattle.std.specs.Prelude.{Option}
use Rattle.order.proofs.After.{after_within, after_below}
use Rattle.marks.specs.Marks.{stamped, Marked}
use Rattle.marks.proofs.Marking.{marked_stamped}
use Rattle.gaps.specs.Gaps.{flow_of, Sweep, Resumes}
use Rattle.twins.specs.Twins.{resume_at, Resume}
use Rattle.twins.proofs.Twinning.{resumes}
use Rattle.placing.specs.Held.{latest_at, stamped_for, Placeable, Over}

-- a time less the longest occupancy, where it is not below 0
pub earlier : {time longest early : ℕ} → (longest ≤ time) × (early ≡ time - longest) → longest + early ≡ time
earlier e = omega (arith, e.0, e.1)

-- before the first that starts after it all are over
pub early_over : (taken : Taken) (early : ℕ) {time longest at : ℕ} → longest + early ≡ time → at ≡ spot_of taken early → Over taken time longest at
unfolding spot_of
early_over taken early {time} {longest} {at} e here = record {
  within = after_within (start_of taken) taken.count early at here;
  over = λ j h. omega (arith, after_below (start_of taken) taken.count early at here j h);
}

-- the links of a path that was lent are marked
pub stamps : (g : ℕ) (marks : List (Option ℕ)) {path own_path : List ℕ} {marked : List (Option ℕ)} → path ≡ own_path → marked ≡ stamped path g (length path) marks
    → marked ≡ stamped own_path g (length own_path) marks
stamps g marks e f = f ∙ ap (λ (p : List ℕ). stamped p g (length p) marks) e

module _ {traffic : Traffic} {taken : Taken} {marks : List (Option ℕ)} {f p : ℕ}
    (asks : Placeable traffic taken marks f p) where
  -- its flow is a flow
  pub own_flow : flow_at traffic p < 64
  own_flow = asks.loaded.flows p asks.packet

  pub resume_asks : Resume traffic taken f p
  unfolding start_of
  resume_asks = record {
    loaded = asks.loaded;
    packet = asks.packet;
    some_step = asks.some_step;
    small_step = asks.small_step;
    soon = λ q h timed.
        let s = asks.stood q h timed in
        omega (arith, ap (λ (r : ℕ). get_or taken.times r 0) s.here, asks.kept.soon s.j s.within);
    lasting = λ q h. asks.lasting q (omega arith);
  }

  pub sweep_asks : {from : ℕ} → from ≡ resume_at traffic taken f p → {at : ℕ} → Over taken from traffic.longest at
      → {marked : List (Option ℕ)} → marked ≡ stamped_for traffic p marks
      → Sweep traffic marked taken (flow_at traffic p) f (release_at traffic p) (latest_at traffic p) from at
  unfolding latest_at flow_of
  sweep_asks {from} here over e = record {
    loaded = asks.loaded;
    marked =
        subst (λ (m : List (Option ℕ)). Marked traffic.flows m (flow_at traffic p)) (sym e)
        (marked_stamped marks asks.loaded.paths (flow_at traffic p) own_flow asks.honest);
    kept = asks.kept;
    flow = own_flow;
    lasting = asks.lasting p (omega arith);
    some_step = asks.some_step;
    small_step = asks.small_step;
    order = omega (arith, asks.fits);
    soon = omega (arith, asks.ends);
    within = over.within;
    resumes =
        subst (Resumes traffic taken (flow_at traffic p) f (release_at traffic p)) (sym here)
        (resumes resume_asks (omega (arith, asks.ends)) asks.some_links asks.stood);
    over = λ j h.
        let inside : flow_at traffic (get_or taken.by j 0) < 64 = asks.loaded.flows _ (asks.kept.listed j (omega (arith, over.within))) in
        omega (arith, over.over j h, asks.longest_of (flow_at traffic (get_or taken.by j 0)) inside);
  }
