-- Demand 3: the check passes a table exactly when replay is clean.
-- In order: the range of each packet of a passed table; that holding a link together is a collision; `passed_replays`, a passed
-- table replays clean over any number of hyper-periods; `replays_passed`, a table that replays clean over one number of them, from
-- one up, passes; and the two as one theorem, `check_is_replay`, for each single number, and `check_is_every_replay`, in the
-- owner's words, for all of them.
use mathlib.Core.Path.{◌≡◌, sym, ◌∙◌}
use mathlib.Core.Bool.{true, false≢true}
use mathlib.Core.Logic.{◌↔◌, ⊎_elim}
use mathlib.Core.List.{List}
use Prim.Native.Nat.{ℕ, ◌+◌, ◌*◌, ◌-◌, ◌≤◌, ◌<◌}
use native.Mathlib.Omega.{arith}
use lib.ListN.{length}
use Rattle.routes.proofs.Common.{shares_at}
use Rattle.time.proofs.Windows.{holds_at, common_overlaps}
use Rattle.basics.proofs.Choose.{not_passing}
use Rattle.packet.specs.Packet.{Packet, collide}
use Rattle.packet.specs.Table.{packet_at, time_at, outside, meets, passes}
use Rattle.packet.proofs.Packet.{collide_at}
use Rattle.packet.proofs.Table.{passes_from_lem, passes_done, passes_apart, passes_all}
use Rattle.replay.specs.Replay.{held_by, release_in, deadline_in, Replayed, Clean}
use Rattle.replay.specs.Sound.{Sound}
use Rattle.replay.proofs.Blocks.{one_block}
use Rattle.replay.proofs.Replay.{held_link, held_from, held_before}
use Rattle.replay.proofs.Fault.{fault_11, fault_12}

-- packet p starts at its release or after it and is done by its deadline, within the hyper-period
pub record InRange (ps : List Packet) (H : ℕ) (table : List ℕ) (p : ℕ) : Type 0 where
  pub from : (packet_at ps p).release ≤ time_at table p
  pub done : time_at table p + (packet_at ps p).occupancy ≤ (packet_at ps p).deadline
  pub within : (packet_at ps p).deadline ≤ H

-- over any list of sound packets, and any table
module _ (ps : List Packet) (H : ℕ) (table : List ℕ) (sound : Sound ps H) where
  -- in a passed table every packet is in its range
  pub in_range : passes ps table ≡ true → (p : ℕ) → p < length ps → InRange ps H table p
  in_range e p h =
      record {
        from = passes_from_lem ps table e p h;
        done = passes_done ps table e p h (omega (arith, sound.fits p h));
        within = sound.within p h;
      }

  -- packets that hold one link in one cycle of one hyper-period collide
  held_collide : (i p q link cycle : ℕ) → held_by ps H table i p link cycle ≡ true → held_by ps H table i q link cycle ≡ true
      → collide (packet_at ps p) (time_at table p) (packet_at ps q) (time_at table q) ≡ true
  held_collide i p q link cycle a b =
      let P = packet_at ps p in
      let Q = packet_at ps q in
      let s = time_at table p in
      let t = time_at table q in
      let a_from = held_from ps H table i p link cycle a in
      let a_before = held_before ps H table i p link cycle a in
      let b_from = held_from ps H table i q link cycle b in
      let b_before = held_before ps H table i q link cycle b in
      let c = cycle - i * H in
      let p_holds = holds_at s P.occupancy c (omega arith) (omega arith) in
      let q_holds = holds_at t Q.occupancy c (omega arith) (omega arith) in
      let overlap = common_overlaps s P.occupancy t Q.occupancy c p_holds q_holds in
      let p_link = held_link ps H table i p link cycle a in
      let q_link = held_link ps H table i q link cycle b in
      collide_at P s Q t overlap (shares_at P.path Q.path link p_link q_link)

  -- a passed table replays clean over any number of hyper-periods
  pub passed_replays : passes ps table ≡ true → (N : ℕ) → Clean ps H table N
  unfolding release_in deadline_in
  passed_replays e N =
      record {
        no_clash = λ i p j q link cycle a b clash.
            let same = same_hyper i p j q link cycle a.listed b.listed clash.one clash.other in
            let other = rw (← same) at clash.other in
            let apart = passes_apart ps table e p q a.listed b.listed (λ (s : p ≡ q). clash.different (same, s)) in
            false≢true (sym apart ∙ held_collide i p q link cycle clash.one other);
        no_stray = λ i p link cycle a stray.
            let r = in_range e p a.listed in
            let from = held_from ps H table i p link cycle stray.held in
            let before = held_before ps H table i p link cycle stray.held in
            ⊎_elim (λ (early : cycle < i * H + (packet_at ps p).release). omega arith)
            (λ (late : i * H + (packet_at ps p).deadline ≤ cycle). omega arith) stray.untimely;
      }
    where
      same_hyper : (i p j q link cycle : ℕ) → p < length ps → q < length ps → held_by ps H table i p link cycle ≡ true
          → held_by ps H table j q link cycle ≡ true → i ≡ j
      same_hyper i p j q link cycle h k a b =
          let r = in_range e p h in
          let s = in_range e q k in
          let a_from = held_from ps H table i p link cycle a in
          let a_before = held_before ps H table i p link cycle a in
          let b_from = held_from ps H table j q link cycle b in
          let b_before = held_before ps H table j q link cycle b in
          one_block H i j cycle (omega arith) (omega arith) (omega arith) (omega arith)

  -- a table that replays clean over one number of hyper-periods, from one up, passes
  pub replays_passed : (N : ℕ) → 1 ≤ N → Clean ps H table N → passes ps table ≡ true
  replays_passed N h clean =
      passes_all ps table (λ p k. not_passing (outside ps table p) (no_11 p k))
      (λ a b k l. not_passing (meets ps table a b) (no_12 a b k l))
    where
      in_first : (p : ℕ) → p < length ps → Replayed ps N 0 p
      in_first p k = record { within = h; listed = k }

      no_11 : (p : ℕ) → p < length ps → outside ps table p ≡ true → ⊥
      no_11 p k e = let f = fault_11 ps H table sound p k e in clean.no_stray 0 p f.0 f.1 (in_first p k) f.2

      no_12 : (a b : ℕ) → a < length ps → b < length ps → meets ps table a b ≡ true → ⊥
      no_12 a b k l e =
          let f = fault_12 ps H table sound a b l e in
          clean.no_clash 0 a 0 b f.0 f.1 (in_first a k) (in_first b l) f.2

  -- for each number of hyper-periods from one up, the table passes exactly when replay over so many is clean
  pub check_is_replay : (N : ℕ) → 1 ≤ N → (passes ps table ≡ true) ↔ Clean ps H table N
  check_is_replay N h = (λ e. passed_replays e N, replays_passed N h)

  -- the table passes exactly when replay is clean for every number of hyper-periods from one up
  pub check_is_every_replay : (passes ps table ≡ true) ↔ ((N : ℕ) → 1 ≤ N → Clean ps H table N)
  check_is_every_replay = (λ e N h. passed_replays e N, λ all. replays_passed 1 (omega arith) (all 1 (omega arith)))
