-- One step of a pass where no time will do: the packet moves to the front, or is skipped.
use mathlib.Core.Path.{◌≡◌, sym, ◌∙◌, ap, ap₂}
use mathlib.Core.Bool.{Bool, false}
use mathlib.Core.List.{List}
use Prim.Native.Nat.{ℕ, ◌+◌, ◌≤◌, ◌<◌}
use native.Mathlib.Decide.{ℕ_discrete}
use native.Mathlib.Omega.{arith}
use lib.ListN.{length, get_or, set, take, length-set}
use lib.Seq.{slice, get_or-set_same, get_or-set_other, take-set-lt}
use borrow.Author.Tests.{lt-ltb, le-ltb}
use Rattle.basics.specs.Choose.{choose}
use Rattle.packet.specs.Packet.{Packet}
use Rattle.packet.specs.Table.{packet_at}
use Rattle.order.specs.Order.{occurs}
use Rattle.order.specs.Lists.{shifted}
use Rattle.order.proofs.Shifting.{shifted_length}
use Rattle.order.proofs.Ordering.{occurs_append}
use Rattle.gaps.specs.declared.gap.Placed.{Placed}
use Rattle.gaps.specs.declared.gap.Placed.TheVariants.{Nowhere}
use Rattle.placing.specs.Placing.{placing_of}
use Rattle.placing.specs.Traffic.{packets_held}
use Rattle.load.specs.declared.traffic.Traffic.{Traffic}
use Rattle.settling.specs.Settling.{raised, turned_away, TurnsAway}
use Rattle.settling.specs.declared.taking.State.{State}
use Rattle.passes.specs.Pass.{pass_from}
use Rattle.passes.specs.Stand.{list_of, fails_of, Stand, stand_of, outcome, Ready, Carried, Going}
use Rattle.passes.proofs.Parts.{list_moved, list_without, taken_moved, rest_moved, list_occurs, each_moved}
use Rattle.passes.proofs.Stepping.{next_of, few, long, next_in_lem, next_below, list_once, behind, rises, here, latest_small}
use Rattle.passes.proofs.PassSteps.{pass_broken, pass_skipped, placing_nowhere, slots_few}

module _ {t : Traffic} {f g : ℕ} (ready : Ready t f g) {s : Stand} (going : Going (packets_held t) f g s) (more : s.at < length (packets_held t)) where
  -- the packets
  abbrev ps : List Packet
  ps = packets_held t

  -- its fail count, risen
  abbrev fail : ℕ
  fail = raised s.state.fails (next_of s)

  -- what turning it away asks
  pub turns : TurnsAway s.state s.at (next_of s)
  turns = record {
    long = going.carried.fails_long;
    within = omega (arith, next_in_lem ready going more, few ready going more);
    low = omega (arith, next_below ready going more, ready.high);
    room = record { long = going.carried.order_long; order = going.low; within = omega (arith, more, few ready going more) };
  }

  -- the order with it at the front of the list
  abbrev fronted : List ℕ
  fronted = shifted s.state.order s.state.base s.at (next_of s)

  -- the fail counts with its own risen
  abbrev failed : List ℕ
  failed = set s.state.fails (next_of s) fail

  -- the state with it at the front
  abbrev fronted_at : ℕ → State
  fronted_at base = record { order = fronted; fails = failed; base = base }

  -- so is the state once it was turned away, below G and at it
  turned_broken : raised s.state.fails (next_of s) < g → turned_away s.state s.at (next_of s) g ≡ fronted_at s.state.base
  unfolding turned_away
  turned_broken h = ap (λ (below : Bool). fronted_at (choose below s.state.base (s.state.base + 1))) (lt-ltb _ _ h)

  turned_skipped : g ≤ raised s.state.fails (next_of s) → turned_away s.state s.at (next_of s) g ≡ fronted_at (s.state.base + 1)
  unfolding turned_away
  turned_skipped h = ap (λ (below : Bool). fronted_at (choose below s.state.base (s.state.base + 1))) (le-ltb _ _ h)

  -- the definition's fail counts
  fails_same : set (fails_of (length ps) s.state) (next_of s) (raised (fails_of (length ps) s.state) (next_of s)) ≡ take (length ps) failed
  unfolding fails_of
  fails_same =
      ap (set (take (length ps) s.state.fails) (next_of s)) (rises ready going more)
      ∙ sym (take-set-lt (length ps) s.state.fails (next_of s) fail (next_in_lem ready going more))

  fronted_long : length fronted ≡ 1024
  fronted_long =
      shifted_length s.state.order s.state.base s.at (next_of s) going.low (omega (arith, long ready going more)) ∙ going.carried.order_long

  failed_long : length failed ≡ 1024
  failed_long = length-set s.state.fails (next_of s) fail ∙ going.carried.fails_long

  fronted_numbers : (j : ℕ) → j < length ps → get_or fronted j 0 < length ps
  fronted_numbers =
      each_moved s.state.order s.state.base s.at (length ps) going.low more (long ready going more) (λ (q : ℕ). q < length ps) going.carried.numbers

  -- another's fail count does not change
  failed_other : (q : ℕ) → (q ≡ next_of s → ⊥) → get_or failed q 0 ≡ get_or s.state.fails q 0
  failed_other q ne = get_or-set_other s.state.fails (next_of s) q fail 0 ne

  -- a number stands in the list with it at the front as often as before
  fronted_occurs : (q : ℕ) → occurs q (slice s.state.base (length ps) fronted) ≡ occurs q (slice s.state.base (length ps) s.state.order)
  unfolding occurs
  fronted_occurs q =
      ap (occurs q) (list_moved s.state.order s.state.base s.at (length ps) going.low more (long ready going more))
      ∙ omega (
        arith,
        occurs_append q (slice s.state.base s.at s.state.order) (slice (s.at + 1) (length ps) s.state.order),
        list_occurs s.state.order s.state.base s.at (length ps) going.low more (long ready going more) q,
      )

  -- a number stands in the list without it as often as before, but for itself
  left_occurs : (q : ℕ) → occurs q (slice (s.state.base + 1) (length ps) fronted)
      ≡ occurs q (slice s.state.base s.at s.state.order) + occurs q (slice (s.at + 1) (length ps) s.state.order)
  left_occurs q =
      ap (occurs q) (list_without s.state.order s.state.base s.at (length ps) going.low more (long ready going more))
      ∙ occurs_append q (slice s.state.base s.at s.state.order) (slice (s.at + 1) (length ps) s.state.order)

  -- no more often than before
  left_fewer : (q : ℕ) → occurs q (slice (s.state.base + 1) (length ps) fronted) ≤ occurs q (slice s.state.base (length ps) s.state.order)
  unfolding occurs
  left_fewer q =
      omega (arith, left_occurs q, list_occurs s.state.order s.state.base s.at (length ps) going.low more (long ready going more) q)

  -- ---- what is carried over

  -- below G
  broken_carried : fail < g → Carried ps g (fronted_at s.state.base)
  unfolding list_of
  broken_carried h = record {
    order_long = fronted_long;
    fails_long = failed_long;
    within = going.carried.within;
    numbers = fronted_numbers;
    once = λ q. omega (arith, fronted_occurs q, going.carried.once q);
    below = λ q l.
        elim (ℕ_discrete q (next_of s)) [
          | yes a ↦
              rw (a, get_or-set_same s.state.fails (next_of s) fail 0 (omega (arith, going.carried.fails_long, next_in_lem ready going more, few ready going more))) h
          | no a ↦ rw (failed_other q a) (going.carried.below q (omega (arith, fronted_occurs q)))
        ];
  }

  -- at G
  skipped_carried : Carried ps g (fronted_at (s.state.base + 1))
  unfolding list_of
  skipped_carried = record {
    order_long = fronted_long;
    fails_long = failed_long;
    within = omega (arith, going.low, more);
    numbers = fronted_numbers;
    once = λ q. omega (arith, left_fewer q, going.carried.once q);
    below = λ q l.
        elim (ℕ_discrete q (next_of s)) [
          | yes a ↦ absurd (omega (arith, ap (λ (n : ℕ). occurs n (slice (s.state.base + 1) (length ps) fronted)) a, left_occurs (next_of s), list_once ready going more))
          | no a ↦ rw (failed_other q a) (going.carried.below q (omega (arith, left_fewer q)))
        ];
  }

  -- ---- no time will do

  module _ {r : Placed} (placing : r ≡ placing_of (packets_held t) f (take (length (packets_held t)) s.taken.times) (next_of s)) {m : ℕ} (nowhere : r ≡ Nowhere m) where
    e : placing_of ps f (take (length ps) s.taken.times) (next_of s) ≡ Nowhere m
    e = sym placing ∙ nowhere

    pub all_few : m ≤ 16777217
    all_few =
        omega (arith, placing_nowhere ps f (take (length ps) s.taken.times) (next_of s) m e, slots_few f (packet_at ps (next_of s)), latest_small ready going more)

    -- below G the pass is broken off: what it leaves
    pub broken_outcome : raised s.state.fails (next_of s) < g
        → record {
          whole = false;
          list = list_of (length (packets_held t)) (turned_away s.state s.at (next_of s) g);
          fails = fails_of (length (packets_held t)) (turned_away s.state s.at (next_of s) g);
          table = take (length (packets_held t)) s.taken.times;
          tries = s.tries + m;
        } ≡ outcome (packets_held t) f g s
    unfolding list_of fails_of
    broken_outcome h =
        rw (turned_broken h)
        (sym
        (here ready going more ∙ pass_broken ps f g (next_of s) _ _ _ _ s.tries m e (rw (rises ready going more) h)
        ∙ ap₂ (λ (list fails : List ℕ). record { whole = false; list = list; fails = fails; table = take (length ps) s.taken.times; tries = s.tries + m })
        (sym (list_moved s.state.order s.state.base s.at (length ps) going.low more (long ready going more))) fails_same))

    -- and what is carried over
    pub broken_carries : raised s.state.fails (next_of s) < g → Carried (packets_held t) g (turned_away s.state s.at (next_of s) g)
    broken_carries h = rw (turned_broken h) (broken_carried h)

    -- at G it is skipped: the pass leaves the same
    pub skipped_outcome : g ≤ raised s.state.fails (next_of s)
        → outcome (packets_held t) f g (stand_of (turned_away s.state s.at (next_of s) g) s.taken (s.at + 1) (s.tries + m))
        ≡ outcome (packets_held t) f g s
    unfolding outcome fails_of
    skipped_outcome h =
        rw (turned_skipped h)
        (sym
        (here ready going more ∙ pass_skipped ps f g (next_of s) _ _ _ _ s.tries m e (rw (rises ready going more) h)
        ∙ ap₂ (λ (rest kept : List ℕ). pass_from ps f g rest kept (set (fails_of (length ps) s.state) (next_of s) (raised (fails_of (length ps) s.state) (next_of s))) (take (length ps) s.taken.times) (s.tries + m))
        (sym (rest_moved s.state.order s.state.base s.at (length ps) going.low more (long ready going more)))
        (sym (taken_moved s.state.order s.state.base s.at (length ps) going.low more (long ready going more)))
        ∙ ap (λ (fails : List ℕ). pass_from ps f g (slice (s.at + 1) (length ps) fronted) (slice (s.state.base + 1) (s.at + 1) fronted) fails (take (length ps) s.taken.times) (s.tries + m))
        fails_same))

    -- and goes on
    pub skipped_going : g ≤ raised s.state.fails (next_of s)
        → Going (packets_held t) f g (stand_of (turned_away s.state s.at (next_of s) g) s.taken (s.at + 1) (s.tries + m))
    skipped_going h =
        rw (turned_skipped h)
        record {
          carried = skipped_carried;
          low = omega (arith, going.low);
          high = omega (arith, more);
          few = omega (arith, going.few);
          kept = going.kept;
          listed = going.listed;
          ahead = λ q l.
              ap (occurs q) (rest_moved s.state.order s.state.base s.at (length ps) going.low more (long ready going more)) ∙ behind ready going more q l;
          tight = going.tight;
          bounded = omega (arith, going.bounded, all_few);
        }
