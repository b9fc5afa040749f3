-- A whole pass: it starts with nothing placed, each step leaves what the pass leaves as it was, and its two ends.
use mathlib.Core.Path.{◌≡◌, refl, sym, ◌∙◌, ap, ap₂}
use mathlib.Core.Bool.{true, false≢true}
use mathlib.Core.List.{List, ◌∷◌}
use Prim.Native.Nat.{ℕ, zero, suc, ◌+◌, ◌≤◌, ◌<◌}
use native.Mathlib.Nat.{le_of_suc-le-suc}
use native.Mathlib.Omega.{arith}
use lib.ListN.{length, take, replicate, length-replicate}
use lib.Seq.{slice, slice_empty}
use Rattle.packet.specs.Table.{none, placed}
use Rattle.packet.proofs.Placed.{nothing_placed}
use Rattle.mesh.specs.Link.{all_links}
use Rattle.load.specs.Load.{flow_at}
use Rattle.kept.specs.Kept.{added}
use Rattle.kept.specs.declared.finding.Taken.{Taken}
use Rattle.std.specs.Prelude.{Option, None, Ok, Err}
use Rattle.marks.specs.Marks.{Honest}
use Rattle.marks.proofs.Marking.{honest_start, honest_stamped}
use Rattle.gaps.specs.declared.gap.Gap.{Gap}
use Rattle.gaps.specs.declared.gap.Placed.TheVariants.{At, Nowhere}
use Rattle.placing.specs.Held.{place_in, stamped_for}
use Rattle.placing.specs.Traffic.{packets_held}
use Rattle.load.specs.declared.traffic.Traffic.{Traffic}
use Rattle.placing.proofs.Bridging.{place_spot, packets_count, held_in}
use Rattle.settling.specs.Settling.{turned, turned_away}
use Rattle.settling.specs.declared.taking.Turned.TheVariants.{Again, Skipped}
use Rattle.settling.proofs.Turning.{again_below, skipped_above}
use Rattle.settling.specs.declared.taking.State.{State}
use Rattle.settling.specs.declared.taking.Turned.{Turned}
use Rattle.passes.specs.Pass.{Pass, pass_from, pass_over}
use Rattle.passes.specs.Stand.{list_of, fails_of, Stand, stand_of, outcome, TableOf, Ready, Going, Runs, Ran}
use Rattle.passes.proofs.Stepping.{next_of, next_in_lem, placing, placed_outcome, placed_going}
use Rattle.passes.proofs.Failing.{all_few, broken_outcome, broken_carries, skipped_outcome, skipped_going}

-- the front of a list of one value
pub take_replicate : (n m x : ℕ) → n ≤ m → take n (replicate m x) ≡ replicate n x
take_replicate zero m x h = refl
take_replicate (suc n) zero x h = absurd (omega arith)
take_replicate (suc n) (suc m) x h = ap (λ (l : List ℕ). x ∷ l) (take_replicate n m x (le_of_suc-le-suc h))

-- what a pass knows as it goes: it leaves what the definition says, and no mark lies
pub record Running (t : Traffic) (f g : ℕ) (start : State) (marks : List (Option ℕ)) (s : Stand) : Type 0 where
  pub ready : Ready t f g
  pub honest : Honest t.flows marks
  pub going : Going (packets_held t) f g s
  pub same : outcome (packets_held t) f g s ≡ pass_over (packets_held t) f g (list_of (length (packets_held t)) start) (fails_of (length (packets_held t)) start)

-- it starts
pub running_start : {t : Traffic} {f g : ℕ} {start : State} → Runs t f g start
    → {taken : Taken} {marks : List (Option ℕ)} → taken.times ≡ replicate 1024 none → length taken.by ≡ 1024 → taken.count ≡ 0 → marks ≡ replicate all_links None
    → Running t f g start marks (stand_of start taken start.base 0)
unfolding outcome pass_over list_of
running_start {t} {f} {g} {start} runs {taken} e by_long empty unmarked =
    let few : length (packets_held t) ≤ 1024 = (held_in t runs.ready.few).few in
    let table : take (length (packets_held t)) taken.times ≡ replicate (length (packets_held t)) none =
    ap (take (length (packets_held t))) e ∙ take_replicate (length (packets_held t)) 1024 none few in
    let clear : (q : ℕ) → placed (take (length (packets_held t)) taken.times) q ≡ true → ⊥ =
    λ q h. false≢true (sym (ap (λ (t : List ℕ). placed t q) table ∙ nothing_placed (length (packets_held t)) q) ∙ h) in
    record {
      ready = runs.ready;
      honest = honest_start t.flows unmarked;
      going = record {
        carried = runs.carried;
        low = omega arith;
        high = runs.carried.within;
        few = omega (arith, empty);
        kept = record {
          few = omega (arith, empty);
          by_long = by_long;
          times_long = ap length e ∙ length-replicate {A = ℕ} 1024 none;
          listed = λ j h. absurd (omega (arith, empty));
          soon = λ j h. absurd (omega (arith, empty));
          rising = λ i j h k. absurd (omega (arith, empty));
        };
        listed = record { inside = λ j h. absurd (omega (arith, empty)); timed = λ j h. absurd (omega (arith, empty)); all = λ q h k. absurd (clear q k) };
        ahead = λ q h. absurd (clear q h);
        tight = λ q l h. absurd (clear q h);
        bounded = omega arith;
      };
      same =
          ap₂ (λ (kept table : List ℕ). pass_from (packets_held t) f g (slice start.base (length (packets_held t)) start.order) kept (fails_of (length (packets_held t)) start) table 0)
          (slice_empty start.base start.order) table;
    }

module _ {t : Traffic} {f g : ℕ} {start : State} {marks : List (Option ℕ)} {s : Stand} (run : Running t f g start marks s) where
  module _ (next : s.at < t.count) where
    -- a packet is left
    pub more : s.at < length (packets_held t)
    more = omega (arith, packets_count t)

    -- it is one of 1,024
    pub next_small : next_of s < 1024
    next_small = omega (arith, next_in_lem run.ready run.going more, (held_in t run.ready.few).few)

    -- no mark lies once those of the next packet's path are made
    marked_more : {after : List (Option ℕ)} → after ≡ stamped_for t (next_of s) marks → Honest t.flows after
    marked_more e =
        rw e (honest_stamped marks run.ready.loaded.paths (flow_at t (next_of s))
        (run.ready.loaded.flows (next_of s) next_small) run.honest)

    module _ {r : Gap} (goes : r ≡ place_in t s.taken f (next_of s)) {after : List (Option ℕ)} (stamps : after ≡ stamped_for t (next_of s) marks) {m : ℕ} where
      -- a packet is placed, and the pass goes on
      pub running_placed : {time : ℕ} → r.placed ≡ At time m → {taken : Taken} → taken ≡ added s.taken r.spot (next_of s) time
          → Running t f g start after (stand_of s.state taken (s.at + 1) (s.tries + m))
      running_placed {time} at taken-is =
          let spot = place_spot (held_in t run.ready.few) run.going.listed (next_in_lem run.ready run.going more) f goes at in
          rw (taken-is, spot)
          record {
            ready = run.ready;
            honest = marked_more stamps;
            going = placed_going run.ready run.going more goes at;
            same = placed_outcome run.ready run.going more goes at ∙ run.same;
          }

      module _ (nowhere : r.placed ≡ Nowhere m) {state : State} (turns : state ≡ turned_away s.state s.at (next_of s) g) {then : Turned} (follows : then ≡ turned s.state (next_of s) g) where
        -- a packet is skipped, and the pass goes on
        pub running_skipped : then ≡ Skipped → Running t f g start after (stand_of state s.taken (s.at + 1) (s.tries + m))
        running_skipped h =
            let p = placing run.ready run.going more goes in
            let above = skipped_above s.state (next_of s) g (sym follows ∙ h) in
            rw turns
            record {
              ready = run.ready;
              honest = marked_more stamps;
              going = skipped_going run.ready run.going more p nowhere above;
              same = skipped_outcome run.ready run.going more p nowhere above ∙ run.same;
            }

        -- a packet goes to the front, and the pass is broken off
        pub running_broken : then ≡ Again → Ran (packets_held t) f g start state record { table = Err s.taken.times; tries = s.tries + m }
        unfolding TableOf
        running_broken h =
            let p = placing run.ready run.going more goes in
            let below = again_below s.state (next_of s) g (sym follows ∙ h) in
            let left = broken_outcome run.ready run.going more p nowhere below ∙ run.same in
            rw turns
            record {
              list = ap (λ (k : Pass). k.list) left;
              fails = ap (λ (k : Pass). k.fails) left;
              tries = ap (λ (k : Pass). k.tries) left;
              table = (sym (ap (λ (k : Pass). k.whole) left), ap (λ (k : Pass). k.table) left, run.going.kept.times_long);
              carried = broken_carries run.ready run.going more p nowhere below;
              bounded = omega (arith, run.going.bounded, all_few run.ready run.going more p nowhere, (held_in t run.ready.few).few);
            }

  -- it runs to the end of its list
  pub running_whole : t.count ≤ s.at → Ran (packets_held t) f g start s.state record { table = Ok s.taken.times; tries = s.tries }
  unfolding pass_from TableOf outcome list_of
  running_whole h =
      let ps = packets_held t in
      let e : s.at ≡ length (packets_held t) = omega (arith, packets_count t, run.going.high) in
      let left : record {
        whole = true;
        list = slice s.state.base (length (packets_held t)) s.state.order;
        fails = fails_of (length (packets_held t)) s.state;
        table = take (length (packets_held t)) s.taken.times;
        tries = s.tries;
      } ≡ pass_over (packets_held t) f g (list_of (length (packets_held t)) start) (fails_of (length (packets_held t)) start) =
      sym
      (ap (λ (k : ℕ). pass_from ps f g (slice k (length ps) s.state.order) (slice s.state.base k s.state.order) (fails_of (length ps) s.state) (take (length ps) s.taken.times) s.tries) e
      ∙ ap (λ (rest : List ℕ). pass_from ps f g rest (slice s.state.base (length ps) s.state.order) (fails_of (length ps) s.state) (take (length ps) s.taken.times) s.tries)
      (slice_empty (length ps) s.state.order))
      ∙ run.same in
      record {
        list = ap (λ (k : Pass). k.list) left;
        fails = ap (λ (k : Pass). k.fails) left;
        tries = ap (λ (k : Pass). k.tries) left;
        table = (sym (ap (λ (k : Pass). k.whole) left), ap (λ (k : Pass). k.table) left, run.going.kept.times_long);
        carried = run.going.carried;
        bounded = omega (arith, run.going.bounded, (held_in t run.ready.few).few);
      }
