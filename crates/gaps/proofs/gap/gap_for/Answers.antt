-- `gap_for` goes forward over the placed packets. The invariants of its three loops are `AtTime`, `AtPacket` and `AtLink`.
use mathlib.Core.List.{List}
use lib.ListN.{length, get_or}
use Prim.Native.Nat.{ℕ, ◌+◌, ◌-◌}
use mathlib.Core.Path.{◌≡◌, refl, sym, ◌∙◌, ap}
use native.Mathlib.Omega.{arith}
use borrow.Author.Count.{below_none}
use Rattle.load.specs.Load.{flow_at, span_of}
use Rattle.kept.specs.Kept.{start_of}
use Rattle.gaps.specs.Gaps.{flow_of, placed_in, spot_in, gap_in}
use Rattle.gaps.specs.declared.gap.Placed.TheVariants.{At}
use Rattle.gaps.proofs.Sweeping.{past_after, sweep_start, sweep_over}
use Rattle.load.proofs.Paths.{path_number}
use Rattle.gaps.proofs.Facing.{next_is, link_jump, links_apart, ends_past, ends_early, ends_clear, early_back, clear_back}
use Rattle.gaps.proofs.gap.gap_for.Goals.{else-loop-j-test, then-loop-j-test+then-t-span}
use Rattle.gaps.proofs.gap.gap_for.Goals as goal

pub times-init : goal.times-init
unfolding span_of
times-init c = record { asks = c.requires; span_is = refl; small_span = c.requires.loaded.spans _ c.requires.flow; swept = sweep_start c.requires; after = omega (arith, c.requires.resumes.grid) }

pub bounds-traffic-other : goal.bounds-traffic-other
bounds-traffic-other c = (next_is c.loop-j.invariant.asks c.loop-j.j c.loop-j-test.true).flow

pub overflow_add-end : goal.overflow_add-end
overflow_add-end c = omega (arith, next_is c.loop-j.invariant.asks c.loop-j.j c.loop-j-test.true)

pub loop-j-preserved-then-end-t : goal.loop-j-preserved-then-end-t
unfolding start_of flow_of span_of flow_at
loop-j-preserved-then-end-t c = let s = c.loop-j.invariant in record { asks = s.asks; span_is = s.span_is; small_span = s.small_span; swept = sweep_over s.swept c.loop-j-test.true c.if-end-t.true; after = s.after; going = s.going; ahead = omega (arith, s.ahead) }

pub path-path-requires : goal.path-path-requires
path-path-requires c = ((next_is c.loop-j.invariant.asks c.loop-j.j c.loop-j-test.true).flow, c.loop-j.invariant.asks.loaded.paths)

pub loop-link-init : goal.loop-link-init
unfolding start_of flow_of span_of flow_at
loop-link-init c =
    let s = c.loop-j.invariant in
    let n = next_is c.loop-j.invariant.asks c.loop-j.j c.loop-j-test.true in
    let here : c.loop-j.j ≡ c.loop-j.j + 1 - 1 = omega arith in
    rw (sym here)
    record {
      packet = record { asks = s.asks; span_is = s.span_is; small_span = s.small_span; swept = s.swept; after = s.after; going = s.going; ahead = omega arith };
      facing = record {
        next = c.loop-j-test.true;
        other_is = refl;
        end_is = refl;
        starts = omega (arith, c.if-t-span.false, s.span_is);
        flow = n.flow;
        past = record { before = c.if-end-t.false; soon = omega (arith, n); some_step = s.asks.some_step; small_step = s.asks.small_step };
      };
      path_is = c.path-path.ensures;
      lacks = below_none _;
    }

pub has_mark-requires : goal.has_mark-requires
has_mark-requires c =
    let s = c.loop-link.invariant in
    let asks = s.packet.asks in
    (asks.flow, omega (arith, ap (λ (p : List ℕ). get_or p c.loop-link.link-index 0) s.path_is, path_number asks.loaded.paths _ s.facing.flow c.loop-link.link-index (omega (arith, ap length s.path_is, c.loop-link-test.true))))

pub times-preserved : goal.times-preserved
times-preserved c =
    let s = c.loop-link.invariant in
    let here : c.loop-j.j + 1 - 1 + 1 ≡ c.loop-j.j + 1 = omega arith in
    record {
      asks = s.packet.asks;
      span_is = s.packet.span_is;
      small_span = s.packet.small_span;
      swept = rw (c.time_past-t.ensures, sym here) (link_jump s c.loop-link-test.true (sym c.has_mark.ensures ∙ c.if-has_mark.true));
      after = omega (arith, s.packet.after, c.time_past-t.ensures, past_after s.facing.past);
    }

pub loop-j-preserved : goal.loop-j-preserved
loop-j-preserved c =
    let s = c.loop-link.invariant in
    let here : c.loop-j.j + 1 - 1 + 1 ≡ c.loop-j.j + 1 = omega arith in
    record {
      asks = s.packet.asks;
      span_is = s.packet.span_is;
      small_span = s.packet.small_span;
      swept = rw (sym here) (links_apart s c.loop-link-test.false);
      after = s.packet.after;
      going = s.packet.going;
      ahead = omega (arith, c.loop-j.invariant.ahead);
    }

pub returns-then-sought-t : goal.returns-then-sought-t
unfolding gap_in spot_in
returns-then-sought-t c = rw (sym (ends_past c.times.invariant c.if-sought-t.true c.times_to-tries.ensures)) refl

pub back_to-requires : goal.back_to-requires
unfolding start_of
back_to-requires c = elim c.loop-j-test.branch [
  | else-loop-j-test w ↦ clear_back c.loop-j.invariant w.loop-j-test.false
  | then-loop-j-test+then-t-span w ↦ early_back c.loop-j.invariant w.if-t-span.true
]

pub returns-after-loop-j : goal.returns-after-loop-j
unfolding gap_in spot_in start_of
returns-after-loop-j c =
    let found : At c.loop-j.t c.times_to-tries-in-times.result ≡ placed_in c.args.traffic.now c.args.taken.now c.args.sought.now.own c.args.sought.now.pruning c.args.sought.now.begin c.args.sought.now.latest =
    elim c.loop-j-test.branch [
      | else-loop-j-test w ↦ ends_clear c.loop-j.invariant c.times_to-tries-in-times.ensures w.loop-j-test.false
      | then-loop-j-test+then-t-span w ↦ ends_early c.loop-j.invariant c.times_to-tries-in-times.ensures w.if-t-span.true
    ] in
    rw (c.back_to.ensures, sym found) refl
