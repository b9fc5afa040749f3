-- What a receiver sees in the replay of a passed table.
-- In order: how many periods there are; when packets are released, so that each period has one packet and no more; that a packet
-- of a passed table ends in the period that it is released in, and so is that period's packet; and `receiver_sees`.
use mathlib.Core.Path.{◌≡◌, refl, sym, ◌∙◌, ap}
use mathlib.Core.Bool.{true}
use mathlib.Core.List.{List}
use Prim.Native.Nat.{ℕ, zero, suc, ◌+◌, ◌*◌, ◌/◌, ◌%◌, ◌<◌}
use native.Mathlib.Nat.{mul_assoc, mul-div_cancel, div-lt_iff_lt-mul, div-add-mod', mod-lt, eq_of_mul-eq-mul_right}
use native.Mathlib.Omega.{arith}
use Rattle.time.proofs.Windows.{holds_at, holds_from, holds_before}
use Rattle.packet.specs.Packet.{Packet}
use Rattle.packet.specs.Table.{packet_at, passes}
use Rattle.replay.specs.Replay.{injection_in, release_in, end_in}
use Rattle.replay.specs.Sound.{Sound, IsPacket, Periodic}
use Rattle.replay.specs.Receiver.{periods_over, in_period, OfFlow, PacketOf, SeesEnd, SeesOwn}
use Rattle.replay.proofs.Blocks.{one_block, one_place}
use Rattle.replay.proofs.Passed.{in_range}

-- a product above some number has a positive factor
positive_factor : (k N n : ℕ) → k < N * n → 0 < n
positive_factor k N zero h = absurd (omega arith)
positive_factor k N (suc n) h = omega arith

-- over any list of packets of periodic flows
module _ (ps : List Packet) (H flows : ℕ) (period turns : ℕ → ℕ) (periodic : Periodic ps H flows period turns) where
  -- over N hyper-periods a flow has N times as many periods as packets in one
  pub periods_are : (N f : ℕ) → f < flows → periods_over N H (period f) ≡ N * turns f
  unfolding periods_over
  periods_are N f h =
      ap (λ (x : ℕ). x / period f) (ap (λ (x : ℕ). N * x) (periodic.whole f h) ∙ sym (mul_assoc N (turns f) (period f)))
      ∙ mul-div_cancel (N * turns f) (periodic.lasting f h)

  -- packet k of flow f is released, in hyper-period i, at the first cycle of period i × turns + k
  released_at : (f k i p : ℕ) → IsPacket ps f k p → release_in ps H i p ≡ (i * turns f + k) * period f
  unfolding release_in
  released_at f k i p is =
      let below = rw is.flow at (periodic.flow_below p is.listed) in
      let release = rw (is.turn, is.flow) at (periodic.released p is.listed) in
      omega (arith, ap (λ (x : ℕ). i * x) (periodic.whole f below))

  -- every packet of a flow is one of its turns
  its_turn : {N f i p : ℕ} → OfFlow ps N f i p → IsPacket ps f (packet_at ps p).turn p
  its_turn own = record { listed = own.replayed.listed; flow = own.flow; turn = refl }

  -- every period has a packet
  pub period_has : (N f k : ℕ) → f < flows → k < periods_over N H (period f)
      → (i : ℕ) × (p : ℕ) × PacketOf ps H N f (period f) k i p
  period_has N f k h l =
      let below : k < N * turns f = rw (periods_are N f h) at l in
      let some = positive_factor k N (turns f) below in
      let i = k / turns f in
      let w = periodic.every f (k % turns f) h (mod-lt k some) in (
        i,
        w.0,
        record {
          own = record {
            replayed = record { within = (div-lt_iff_lt-mul some).1 below; listed = w.1.listed };
            flow = w.1.flow;
          };
          first_cycle = released_at f (k % turns f) i w.0 w.1 ∙ ap (λ (x : ℕ). x * period f) (div-add-mod' k (turns f));
        },
      )

  -- and no more than one
  pub period_one : (N f k i p j q : ℕ) → PacketOf ps H N f (period f) k i p → PacketOf ps H N f (period f) k j q
      → (i ≡ j) × (p ≡ q)
  period_one N f k i p j q a b =
      let below : f < flows = rw a.own.flow at (periodic.flow_below p a.own.replayed.listed) in
      let P = its_turn a.own in
      let Q = its_turn b.own in
      let m = (packet_at ps p).turn in
      let n = (packet_at ps q).turn in
      let m_below : m < turns f = rw a.own.flow at (periodic.turn_below p P.listed) in
      let n_below : n < turns f = rw b.own.flow at (periodic.turn_below q Q.listed) in
      let at_once = sym (released_at f m i p P) ∙ a.first_cycle ∙ sym b.first_cycle ∙ released_at f n j q Q in
      let same = eq_of_mul-eq-mul_right (period f) (periodic.lasting f below) (i * turns f + m) (j * turns f + n) at_once in
      let place = one_place (turns f) i j m n m_below n_below same in
      (place.0, periodic.once f n p q (record { listed = P.listed; flow = P.flow; turn = place.1 }) Q)

  -- where the packets are sound and the table passes
  module _ (table : List ℕ) (sound : Sound ps H) (passed : passes ps table ≡ true) where
    -- a packet of a passed table ends in the period that it is released in
    end_in_lem : (N f k i p : ℕ) → PacketOf ps H N f (period f) k i p → in_period (period f) k (end_in ps H table i p) ≡ true
    unfolding in_period end_in injection_in release_in
    end_in_lem N f k i p its =
        let listed = its.own.replayed.listed in
        let range = in_range ps H table sound passed p listed in
        let busy = sound.busy p listed in
        let prompt = rw its.own.flow at (periodic.prompt p listed) in
        let first = its.first_cycle in
        holds_at (k * period f) (period f) _ (omega arith) (omega arith)

    -- a packet of a passed table that ends in a period is the packet of that period
    end_its : (N f k j q : ℕ) → SeesEnd ps H table N f (period f) k j q → PacketOf ps H N f (period f) k j q
    unfolding in_period
    end_its N f k j q sees =
        let T = period f in
        let c = end_in ps H table j q in
        let m = j * turns f + (packet_at ps q).turn in
        let at = released_at f (packet_at ps q).turn j q (its_turn sees.own) in
        let e = end_in_lem N f m j q (record { own = sees.own; first_cycle = at }) in
        let m_from = holds_from (m * T) T c e in
        let m_before = holds_before (m * T) T c e in
        let k_from = holds_from (k * T) T c sees.seen in
        let k_before = holds_before (k * T) T c sees.seen in
        let same = one_block T m k c m_from m_before k_from k_before in
        record { own = sees.own; first_cycle = at ∙ ap (λ (x : ℕ). x * T) same }

    -- in the replay of a passed table each flow's receiver sees, in every period of the flow, the end of that period's packet
    -- and of no other packet of the flow
    pub receiver_sees : (N f k : ℕ) → f < flows → k < periods_over N H (period f) → SeesOwn ps H table N f (period f) k
    receiver_sees N f k h l =
        let w = period_has N f k h l in
        record {
          hyper = w.0;
          packet = w.1;
          its = w.2;
          sees = record { own = w.2.own; seen = end_in_lem N f k w.0 w.1 w.2 };
          no_other = λ j q sees. period_one N f k j q w.0 w.1 (end_its N f k j q sees) w.2;
        }
