-- `resume` asks whether there is a twin, and goes behind it.
use mathlib.Core.Path.{◌≡◌, refl, sym, ◌∙◌}
use lib.ListN.{get_or}
use Prim.Native.Nat.{ℕ, ◌≤◌, ◌<◌}
use native.Mathlib.Omega.{arith}
use Rattle.std.specs.Prelude.{Some}
use Rattle.hyperperiod.specs.Hyper.{most}
use Rattle.load.specs.Load.{flow_at, span_of}
use Rattle.load.specs.declared.traffic.Traffic.{Traffic}
use Rattle.kept.specs.declared.finding.Taken.{Taken}
use Rattle.twins.specs.Twins.{twin_at, behind, resume_at, Resume}
use Rattle.twins.proofs.Twinning.{twin_found, twin_timed}
use Rattle.load.specs.Entries.{nth_flow, nth_packet}
use Rattle.twins.proofs.following.resume.Goals as goal

-- a twin of packet p stands before it, starts soon, and holds its links for some cycles and not for long
record Behind (traffic : Traffic) (taken : Taken) (p q : ℕ) : Type 0 where
  before : q < p
  number : q < 1024
  flow : (nth_packet traffic.packets q).flow < 64
  soon : get_or taken.times q 0 ≤ most
  lasting : 0 < (nth_flow traffic.flows (nth_packet traffic.packets q).flow).occupancy
  short : (nth_flow traffic.flows (nth_packet traffic.packets q).flow).occupancy ≤ most

twin_behind : {traffic : Traffic} {taken : Taken} {f p q : ℕ} → Resume traffic taken f p → {r : _} → r ≡ twin_at traffic taken p → r ≡ Some q
    → Behind traffic taken p q
unfolding flow_at span_of
twin_behind {traffic} {taken} {f} {p} {q} s e h =
    let found = twin_found traffic taken p q (sym e ∙ h) in
    let number : q < 1024 = omega (arith, found.0, s.packet) in
    record {
      before = found.0;
      number = number;
      flow = s.loaded.flows q number;
      soon = s.soon q found.0 (twin_timed traffic taken p q found.1);
      lasting = s.lasting q found.0;
      short = s.loaded.spans _ (s.loaded.flows q number);
    }

pub offset_bounds-taken-q : goal.offset_bounds-taken-q
offset_bounds-taken-q c = omega (arith, twin_behind c.requires c.twin_of.ensures c.in-Some.is)

pub bounds-taken-q : goal.bounds-taken-q
bounds-taken-q c = (twin_behind c.requires c.twin_of.ensures c.in-Some.is).number

pub offset_bounds-traffic-q : goal.offset_bounds-traffic-q
offset_bounds-traffic-q c = omega (arith, twin_behind c.requires c.twin_of.ensures c.in-Some.is)

pub bounds-traffic-q : goal.bounds-traffic-q
bounds-traffic-q c = (twin_behind c.requires c.twin_of.ensures c.in-Some.is).number

pub bounds-traffic-other : goal.bounds-traffic-other
bounds-traffic-other c = (twin_behind c.requires c.twin_of.ensures c.in-Some.is).flow

pub overflow_add-start : goal.overflow_add-start
overflow_add-start c = omega (arith, twin_behind c.requires c.twin_of.ensures c.in-Some.is)

pub time_past-requires : goal.time_past-requires
time_past-requires c =
    let s = c.requires in
    let twin = twin_behind c.requires c.twin_of.ensures c.in-Some.is in
    record { before = omega (arith, twin); soon = omega (arith, twin); some_step = s.some_step; small_step = s.small_step }

pub returns-in-Some : goal.returns-in-Some
unfolding resume_at behind flow_at span_of
returns-in-Some c = c.time_past.ensures ∙ sym (rw (sym c.twin_of.ensures, c.in-Some.is) refl)

pub returns-in-None : goal.returns-in-None
unfolding resume_at behind
returns-in-None c = sym (rw (sym c.twin_of.ensures, c.in-None.is) refl)
