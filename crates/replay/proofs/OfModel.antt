-- The packets of a model that is not refused have what the theorems of replay need.
use mathlib.Core.Path.{◌≡◌, refl, sym, ◌∙◌, ap, ap₂}
use mathlib.Core.List.{List}
use Prim.Native.Nat.{ℕ, ◌+◌, ◌<◌}
use lib.ListN.{length}
use Rattle.packet.specs.Packet.{Packet}
use Rattle.packet.specs.Table.{packet_at}
use Rattle.model.specs.Flows.{period_of, flows_in}
use Rattle.model.specs.Packets.{hyper_in, turns_in, packets_in, packet_of, packets_of}
use Rattle.model.specs.Fair.{Fair}
use Rattle.model.specs.declared.flows.Mesh.{Mesh}
use Rattle.model.proofs.Numbering.{first_of, Numbered, number_in, packets_length, packet_at_lem, numbered}
use Rattle.model.proofs.InTime.{hyper_whole, fair_timed, InTime, packets_in_time}
use Rattle.replay.specs.Sound.{Sound, IsPacket, Periodic}

module _ (mesh : Mesh) (numbers : List ℕ) where
  -- a listed packet is one of those counted
  counted : (p : ℕ) → p < length (packets_of mesh numbers) → p < packets_in numbers
  counted p h = rw (packets_length mesh numbers) at h

  -- packet k of flow f is listed, at its number
  is_packet : (f k : ℕ) → f < flows_in numbers → k < turns_in numbers f → IsPacket (packets_of mesh numbers) f k (first_of numbers f + k)
  unfolding packet_of
  is_packet f k h l =
      let own : Numbered numbers (first_of numbers f + k) f k = record { flow_in = h; turn_in = l; number = refl } in
      record {
        listed = rw (packets_length mesh numbers) (number_in own);
        flow = ap (λ (q : Packet). q.flow) (packet_at_lem mesh numbers own);
        turn = ap (λ (q : Packet). q.turn) (packet_at_lem mesh numbers own);
      }

  -- and only there
  is_number : (f k p : ℕ) → IsPacket (packets_of mesh numbers) f k p → p ≡ first_of numbers f + k
  is_number f k p is =
      (numbered mesh numbers p (counted p is.listed)).number
      ∙ ap₂ (λ (f k : ℕ). first_of numbers f + k) is.flow is.turn

  module _ (fair : Fair mesh numbers) where
    -- a listed packet is in time
    in_time : (p : ℕ) → p < length (packets_of mesh numbers) → InTime mesh numbers (packet_at (packets_of mesh numbers) p)
    in_time p h = packets_in_time mesh numbers fair p (counted p h)

    -- every packet holds a link for some cycle, fits between its release and its deadline, and lies within H
    pub model_sound : Sound (packets_of mesh numbers) (hyper_in numbers)
    model_sound = record {
      busy = λ p h. (in_time p h).busy;
      fits = λ p h. (in_time p h).fits;
      within = λ p h. (in_time p h).within;
      routed = λ p h. (in_time p h).routed;
    }

    -- the packets are those of the flows, H div T of each, released a period apart
    pub model_periodic : Periodic (packets_of mesh numbers) (hyper_in numbers) (flows_in numbers) (period_of numbers) (turns_in numbers)
    model_periodic = record {
      whole = λ f h. sym (hyper_whole numbers (fair_timed mesh numbers fair) f h);
      lasting = λ f h. (fair.flows f h).times.period_low;
      flow_below = λ p h. (in_time p h).flow_in;
      turn_below = λ p h. (in_time p h).turn_in;
      released = λ p h. (in_time p h).released;
      prompt = λ p h. (in_time p h).prompt;
      every = λ f k h l. (first_of numbers f + k, is_packet f k h l);
      once = λ f k p q a b. is_number f k p a ∙ sym (is_number f k q b);
    }
