-- The packets are numbered flow after flow, from 0, k rising within a flow.
-- In order: the numbers; the list, which grows by one flow at its end, and its length; then that packet k of flow f stands at its
-- number, that every packet of the list is one of those, and so that flows do not fall.
use mathlib.Core.Path.{◌≡◌, refl, sym, ◌∙◌, ap, ap₂}
use mathlib.Core.List.{List, ◌++◌, append-nil, append_assoc}
use Prim.Native.Nat.{ℕ, zero, suc, ◌+◌, ◌-◌, ◌≤◌, ◌<◌}
use native.Mathlib.Nat.{add-zero, add-suc, suc-add, zero-add, lt_of_not-le}
use native.Mathlib.Decide.{dec_le}
use native.Mathlib.Omega.{arith}
use native.Mathlib.Numerals.{add-one}
use lib.ListN.{length, length-append, get_or-append}
use lib.Seq.{get_or-append-add}
use Rattle.basics.specs.Lists.{tabulate}
use Rattle.basics.specs.Sums.{sum_of}
use Rattle.basics.proofs.Lists.{tabulate_length, tabulate_at}
use Rattle.basics.proofs.Sums.{sum_part, in_part}
use Rattle.packet.specs.Packet.{Packet, absent}
use Rattle.packet.specs.Table.{packet_at}
use Rattle.model.specs.Flows.{flows_in}
use Rattle.model.specs.Packets.{turns_in, packets_in, packet_of, packets_from, packets_of}
use Rattle.model.specs.declared.flows.Mesh.{Mesh}

-- the number of flow f's first packet: how many packets the flows before it have
abbrev pub first_of : List ℕ → ℕ → ℕ
first_of numbers f = sum_of (turns_in numbers) f

-- number p is that of packet k of flow f
pub record Numbered (numbers : List ℕ) (p f k : ℕ) : Type 0 where
  pub flow_in : f < flows_in numbers
  pub turn_in : k < turns_in numbers f
  pub number : p ≡ first_of numbers f + k

-- every packet's number is below it
pub number_in : {numbers : List ℕ} {p f k : ℕ} → Numbered numbers p f k → p < packets_in numbers
unfolding packets_in
number_in {numbers} {p} {f} w =
    omega (arith, w.turn_in, w.number, sum_part (turns_in numbers) f (flows_in numbers) w.flow_in)

module _ (mesh : Mesh) (numbers : List ℕ) where
  -- ---- the list, flow after flow

  -- the packets of m + n flows are those of the first m, then those of the n behind them
  packets_split : (f m n : ℕ) → packets_from mesh numbers f (m + n) ≡ packets_from mesh numbers f m ++ packets_from mesh numbers (f + m) n
  unfolding packets_from
  packets_split f zero n = rw (zero-add, add-zero)
  packets_split f (suc m) n = rw (suc-add m n, add-suc f m, append_assoc, packets_split (suc f) m n, suc-add f m)

  -- one flow more stands at the end
  pub packets_grow : (f : ℕ) → packets_from mesh numbers 0 (suc f)
      ≡ packets_from mesh numbers 0 f ++ tabulate (packet_of mesh numbers f) 0 (turns_in numbers f)
  unfolding packets_from
  packets_grow f = rw (add-one, zero-add, append-nil) at (packets_split 0 f 1)

  -- the first f flows have as many packets as the number of flow f's first packet
  pub packets_before : (f : ℕ) → length (packets_from mesh numbers 0 f) ≡ first_of numbers f
  unfolding packets_from sum_of
  packets_before zero = refl
  packets_before (suc f) = ap length (packets_grow f) ∙ rw (length-append, tabulate_length, packets_before f)

  -- as many packets as counted
  pub packets_length : length (packets_of mesh numbers) ≡ packets_in numbers
  unfolding packets_of packets_in
  packets_length = packets_before (flows_in numbers)

  -- ---- packet k of flow f

  -- it stands at its number
  pub packet_at_lem : {p f k : ℕ} → Numbered numbers p f k → packet_at (packets_of mesh numbers) p ≡ packet_of mesh numbers f k
  unfolding packet_at packets_of packets_from
  packet_at_lem {p} {f} {k} w =
      let before = packets_from mesh numbers 0 f in
      let own = tabulate (packet_of mesh numbers f) 0 (turns_in numbers f) in
      let more = flows_in numbers - suc f in
      let behind = packets_from mesh numbers (suc f) more in
      let some : flows_in numbers ≡ f + suc more = omega (arith, w.flow_in) in
      let whole : packets_from mesh numbers 0 (flows_in numbers) ≡ before ++ (own ++ behind) =
      ap (packets_from mesh numbers 0) some ∙ rw zero-add at (packets_split 0 f (suc more)) in
      let place : p ≡ length before + k = w.number ∙ ap (λ (n : ℕ). n + k) (sym (packets_before f)) in
      ap₂ packet_at whole place
      ∙ get_or-append-add before (own ++ behind) k absent
      ∙ get_or-append own behind absent k (rw tabulate_length w.turn_in)
      ∙ tabulate_at (packet_of mesh numbers f) 0 (turns_in numbers f) k absent w.turn_in
      ∙ ap (packet_of mesh numbers f) (zero-add k)

  -- its number is no other packet's
  pub numbered_once : (p f k g m : ℕ) → Numbered numbers p f k → Numbered numbers p g m → (f ≡ g) × (k ≡ m)
  unfolding packet_of
  numbered_once p f k g m a b =
      let same = sym (packet_at_lem a) ∙ packet_at_lem b in
      (ap (λ (q : Packet). q.flow) same, ap (λ (q : Packet). q.turn) same)

  -- every number below the number of packets is that of its packet's own flow and turn
  pub numbered : (p : ℕ) → p < packets_in numbers
      → Numbered numbers p (packet_at (packets_of mesh numbers) p).flow (packet_at (packets_of mesh numbers) p).turn
  unfolding packets_in packet_of
  numbered p h =
      let w = in_part (turns_in numbers) (flows_in numbers) p h in
      let own : Numbered numbers p w.part w.offset = record { flow_in = w.part_in; turn_in = w.offset_in; number = w.number } in
      rw (ap (λ (q : Packet). q.flow) (packet_at_lem own), ap (λ (q : Packet). q.turn) (packet_at_lem own)) own

  -- flows do not fall from one packet to the next
  pub flows_rise : (p q : ℕ) → p ≤ q → q < packets_in numbers → (packet_at (packets_of mesh numbers) p).flow ≤ (packet_at (packets_of mesh numbers) q).flow
  flows_rise p q h k =
      let low : ℕ = (packet_at (packets_of mesh numbers) p).flow in
      let high : ℕ = (packet_at (packets_of mesh numbers) q).flow in
      let a = numbered p (omega arith) in
      let b = numbered q k in
      elim (dec_le low high) [
        | yes l ↦ l
        | no l ↦ absurd (omega (arith, a.number, b.number, b.turn_in, sum_part (turns_in numbers) high low (lt_of_not-le l)))
      ]
