-- One step of a pass as the code takes it: what it asks of placing, and what it leaves where the packet is placed.
-- In order: the next packet; what is known of it; then the packet is placed. Where no time will do: proofs/Failing.antt.
use mathlib.Core.Path.{◌≡◌, sym, ◌∙◌, ap, ap₂, subst}
use mathlib.Core.Bool.{true, false, not}
use mathlib.Core.List.{List, ◌∷◌}
use Prim.Native.Nat.{ℕ, ◌+◌, ◌*◌, ◌≤◌, ◌<◌}
use native.Mathlib.Decide.{ℕ_discrete}
use native.Mathlib.Omega.{arith}
use lib.ListN.{length, get_or, take}
use lib.Seq.{slice, get_or-take, length-take-le}
use lib.Dec.{eqb}
use borrow.Author.Tests.{ne_eqb, not-false}
use Rattle.basics.specs.First.{some}
use Rattle.basics.proofs.Choose.{not_passing}
use Rattle.basics.proofs.Lists.{read_any}
use Rattle.hyperperiod.specs.Hyper.{most}
use Rattle.time.specs.Units.{latest_of}
use Rattle.packet.specs.Packet.{Packet}
use Rattle.packet.specs.Table.{packet_at, time_at, none, placed}
use Rattle.order.specs.Order.{occurs}
use Rattle.order.specs.Lists.{Room}
use Rattle.order.proofs.Ordering.{occurs_same}
use Rattle.kept.specs.Kept.{spot_of, added}
use Rattle.std.specs.Prelude.{Option}
use Rattle.kept.proofs.OneMore.{Taking, adds, spot_within, kept_more, listed_more, table_more, placed_same}
use Rattle.marks.specs.Marks.{Honest}
use Rattle.gaps.specs.declared.gap.Gap.{Gap}
use Rattle.gaps.specs.declared.gap.Placed.TheVariants.{At}
use Rattle.twins.specs.Twins.{Stood}
use Rattle.placing.specs.Placing.{in_the_way, free, taken_of, placing_of}
use Rattle.placing.specs.Held.{Held, Placeable, place_in}
use Rattle.placing.specs.Traffic.{packets_held}
use Rattle.load.specs.declared.traffic.Traffic.{Traffic}
use Rattle.placing.proofs.Bridging.{ways_same, placing_same, place_spot, packets_count, held_in}
use Rattle.settling.specs.Settling.{raised}
use Rattle.passes.specs.Pass.{pass_from}
use Rattle.passes.specs.Stand.{fails_of, list_of, Stand, stand_of, outcome, Ready, Tight, Going}
use Rattle.passes.proofs.Tightening.{tight_other, tight_new}
use Rattle.passes.proofs.Parts.{rest_next, taken_more, list_occurs}
use Rattle.load.specs.Load.{release_at}
use Rattle.passes.proofs.PassSteps.{pass_placed, TimeTaken, placing_at, slots_few, time_latest}

-- the next packet
abbrev pub next_of : Stand → ℕ
next_of s = get_or s.state.order s.at 0

module _ {t : Traffic} {f g : ℕ} (ready : Ready t f g) {s : Stand} (going : Going (packets_held t) f g s) (more : s.at < length (packets_held t)) where
  -- the packets, and that the arrays hold them
  abbrev ps : List Packet
  ps = packets_held t

  held : Held (packets_held t) t
  held = held_in t ready.few

  pub few : length (packets_held t) ≤ 1024
  few = held.few

  pub long : length (packets_held t) ≤ length s.state.order
  long = omega (arith, going.carried.order_long, few)

  -- it is a packet
  pub next_in_lem : next_of s < length (packets_held t)
  next_in_lem = going.carried.numbers s.at more

  next_count : next_of s < t.count
  next_count = omega (arith, next_in_lem, packets_count t)

  -- a placed packet stands where there was no gap before
  stands : (q : ℕ) → q < length (packets_held t) → (get_or s.taken.times q 0 ≡ none → ⊥) → Stood t s.taken f q
  unfolding placed time_at free
  stands q h timed =
      let place : get_or (take (length ps) s.taken.times) q 0 ≡ get_or s.taken.times q 0 = get_or-take (length ps) s.taken.times q 0 h in
      let known : get_or s.taken.times q none ≡ get_or s.taken.times q 0 = read_any s.taken.times q none 0 (omega (arith, going.kept.times_long, few)) in
      let is_placed : placed (take (length ps) s.taken.times) q ≡ true =
      ap (λ (k : ℕ). not (eqb k none)) (get_or-take (length ps) s.taken.times q none h ∙ known) ∙ ap not (ne_eqb _ none timed) in
      let w = going.listed.all q h is_placed in
      let tight = going.tight q h is_placed in
      record {
        j = w.0;
        within = w.1;
        here = w.2;
        i = tight.i;
        grid = sym place ∙ tight.grid ∙ ap (λ (r : ℕ). r + tight.i * f) (held.releases q h);
        tight = λ m l.
            sym (ways_same held going.listed h (release_at t q + m * f))
            ∙ ap (λ (r : ℕ). some (in_the_way ps (take (length ps) s.taken.times) q (r + m * f)) (length ps)) (sym (held.releases q h))
            ∙ not-false _ (tight.taken m l);
      }

  -- what placing it asks
  pub place_asks : {marks : List (Option ℕ)} → Honest t.flows marks → Placeable t s.taken marks f (next_of s)
  place_asks honest = record {
    loaded = ready.loaded;
    honest = honest;
    kept = going.kept;
    packet = omega (arith, next_in_lem, few);
    some_step = ready.some_step;
    small_step = ready.small_step;
    lasting = λ q h. ready.lasting q (omega (arith, next_count));
    some_links = ready.some_links (next_of s) next_count;
    fits = ready.fits (next_of s) next_count;
    ends = ready.ends (next_of s) next_count;
    longest_of = ready.longest_of;
    stood = λ q h timed. stands q (omega (arith, next_in_lem)) timed;
  }

  -- it stands in the list once
  pub list_once : occurs (next_of s) (slice s.state.base s.at s.state.order) + occurs (next_of s) (slice (s.at + 1) (length (packets_held t)) s.state.order) ≡ 0
  unfolding list_of
  list_once =
      omega (
        arith,
        going.carried.once (next_of s),
        list_occurs s.state.order s.state.base s.at (length ps) going.low more long (next_of s),
        occurs_same (next_of s) (slice (s.at + 1) (length ps) s.state.order),
      )

  -- its fail count is below G
  pub next_below : get_or s.state.fails (next_of s) 0 < g
  unfolding list_of
  next_below =
      going.carried.below (next_of s)
      (omega (
        arith,
        list_occurs s.state.order s.state.base s.at (length ps) going.low more long (next_of s),
        occurs_same (next_of s) (slice (s.at + 1) (length ps) s.state.order),
      ))

  -- and it is not placed
  not_placed : placed (take (length ps) s.taken.times) (next_of s) ≡ false
  not_placed = not_passing _ (λ e.
      let none_left : occurs (next_of s) (next_of s ∷ slice (s.at + 1) (length ps) s.state.order) ≡ 0 =
      ap (occurs (next_of s)) (sym (rest_next s.state.order s.state.base s.at (length ps) going.low more long)) ∙ going.ahead (next_of s) e in
      omega (arith, occurs_same (next_of s) (slice (s.at + 1) (length ps) s.state.order)))

  -- what is placed does not stand behind it
  pub behind : (q : ℕ) → placed (take (length (packets_held t)) s.taken.times) q ≡ true → occurs q (slice (s.at + 1) (length (packets_held t)) s.state.order) ≡ 0
  unfolding occurs
  behind q e =
      let none_left : occurs q (next_of s ∷ slice (s.at + 1) (length ps) s.state.order) ≡ 0 =
      ap (occurs q) (sym (rest_next s.state.order s.state.base s.at (length ps) going.low more long)) ∙ going.ahead q e in
      omega arith

  -- its fail count, risen by one
  pub rises : raised (fails_of (length (packets_held t)) s.state) (next_of s) ≡ raised s.state.fails (next_of s)
  unfolding raised fails_of
  rises = ap (λ (n : ℕ). n + 1) (get_or-take (length ps) s.state.fails (next_of s) 0 next_in_lem)

  -- the definition at the next packet
  pub here : outcome (packets_held t) f g s
      ≡ pass_from (packets_held t) f g (next_of s ∷ slice (s.at + 1) (length (packets_held t)) s.state.order) (slice s.state.base s.at s.state.order)
      (fails_of (length (packets_held t)) s.state) (take (length (packets_held t)) s.taken.times) s.tries
  unfolding outcome
  here =
      ap (λ (rest : List ℕ). pass_from ps f g rest (slice s.state.base s.at s.state.order) (fails_of (length ps) s.state) (take (length ps) s.taken.times) s.tries)
      (rest_next s.state.order s.state.base s.at (length ps) going.low more long)

  -- the latest start is in time
  pub latest_small : latest_of (packet_at (packets_held t) (next_of s)).deadline (packet_at (packets_held t) (next_of s)).occupancy ≤ most
  unfolding latest_of
  latest_small = omega (arith, held.deadlines (next_of s) next_in_lem, ready.ends (next_of s) next_count)

  release_latest : (packet_at ps (next_of s)).release ≤ latest_of (packet_at ps (next_of s)).deadline (packet_at ps (next_of s)).occupancy
  unfolding latest_of
  release_latest =
      omega (arith, held.deadlines (next_of s) next_in_lem, held.spans (next_of s) next_in_lem, held.releases (next_of s) next_in_lem, ready.fits (next_of s) next_count)

  -- ---- where it goes

  module _ {r : Gap} (goes : r ≡ place_in t s.taken f (next_of s)) where
    -- it goes where the definition says
    pub placing : r.placed ≡ placing_of (packets_held t) f (take (length (packets_held t)) s.taken.times) (next_of s)
    placing = ap (λ (k : Gap). k.placed) goes ∙ placing_same held going.listed next_in_lem f

    -- ---- the packet is placed

    module _ {time m : ℕ} (at : r.placed ≡ At time m) where
      e : placing_of ps f (take (length ps) s.taken.times) (next_of s) ≡ At time m
      e = sym placing ∙ at

      taken : TimeTaken f (packet_at ps (next_of s)) (taken_of ps f (take (length ps) s.taken.times) (next_of s)) time m
      taken = placing_at ps f (take (length ps) s.taken.times) (next_of s) time m e

      time_soon : time ≤ most
      time_soon = omega (arith, taken.time, time_latest f (packet_at ps (next_of s)) _ taken.one_of release_latest, latest_small)

      pub tries_few : m ≤ 16777217
      tries_few = omega (arith, taken.tried, taken.one_of, slots_few f (packet_at ps (next_of s)), latest_small)

      -- it takes its time
      takes : Taking ps s.taken time (next_of s)
      takes = record {
        kept = going.kept;
        listed = going.listed;
        room = omega (arith, going.few, few);
        few = few;
        packet = next_in_lem;
        soon = time_soon;
        fresh = not_placed;
      }

      -- what its settling asks
      pub settles : Room s.taken.by r.spot s.taken.count × (next_of s < 1024)
      settles = (record { long = going.kept.by_long; order = omega (arith, place_spot held going.listed next_in_lem f goes at, spot_within (adds takes)); within = omega (arith, going.few, few) }, omega (arith, next_in_lem, few))

      -- where the pass stands then
      abbrev stood : Stand
      stood =
          stand_of s.state (added s.taken (spot_of s.taken time) (next_of s) time) (s.at + 1) (s.tries + m)

      -- it leaves the same
      pub placed_outcome : outcome (packets_held t) f g
          (stand_of s.state (added s.taken (spot_of s.taken time) (next_of s) time) (s.at + 1) (s.tries + m))
          ≡ outcome (packets_held t) f g s
      unfolding outcome
      placed_outcome =
          sym
          (here ∙ pass_placed ps f g (next_of s) _ _ _ _ s.tries m time e
          ∙ ap₂ (λ (kept table : List ℕ). pass_from ps f g (slice (s.at + 1) (length ps) s.state.order) kept (fails_of (length ps) s.state) table (s.tries + m))
          (sym (taken_more s.state.order s.state.base s.at (length ps) going.low more long))
          (sym (table_more takes)))

      -- its place is in the table
      front : next_of s < length (take (length ps) s.taken.times)
      front = omega (arith, next_in_lem, length-take-le (length ps) s.taken.times (omega (arith, going.kept.times_long, few)))

      -- and goes on
      pub placed_going : Going (packets_held t) f g
          (stand_of s.state (added s.taken (spot_of s.taken time) (next_of s) time) (s.at + 1) (s.tries + m))
      placed_going = record {
        carried = going.carried;
        low = omega (arith, going.low);
        high = omega (arith, more);
        few = omega (arith, going.few);
        kept = kept_more (adds takes);
        listed = listed_more takes;
        ahead = λ q h.
            elim (ℕ_discrete q (next_of s)) [
              | yes a ↦ rw a (omega (arith, list_once))
              | no a ↦ behind q (sym (placed_same takes q a) ∙ h)
            ];
        tight = λ q h l.
            subst (λ (table : List ℕ). Tight (packets_held t) f table q) (sym (table_more takes))
            (elim (ℕ_discrete q (next_of s)) [
              | yes a ↦ rw a (tight_new ps f (take (length ps) s.taken.times) (next_of s) time front not_placed m e)
              | no a ↦ tight_other ps f (take (length ps) s.taken.times) (next_of s) time front not_placed q a (going.tight q h (sym (placed_same takes q a) ∙ l))
            ]);
        bounded = omega (arith, going.bounded, tries_few);
      }
