-- The slacks of the flows as the code stores them are those of their packets, so the list is in order of least slack.
use mathlib.Core.Path.{◌≡◌, sym, ◌∙◌, ap, ap₂}
use mathlib.Core.List.{List}
use Prim.Native.Nat.{ℕ, ◌<◌}
use native.Mathlib.Nat.{zero-add}
use native.Mathlib.Omega.{arith}
use lib.ListN.{length, get_or}
use Rattle.basics.specs.Lists.{tabulate, padded}
use Rattle.basics.proofs.Lists.{tabulate_length, tabulate_at, padded_at}
use Rattle.packet.specs.Packet.{Packet}
use Rattle.order.specs.Order.{sorted}
use Rattle.order.specs.Lists.{key_in}
use Rattle.order.specs.Grouped.{flow_key}
use Rattle.order.proofs.Ordering.{sorted_same}
use Rattle.load.specs.Entries.{nth_packet}
use Rattle.arrays.specs.Arrays.{flow_numbers, packet_in, packets_read}
use Rattle.arrays.proofs.Entries.{number_at}
use Rattle.arrays.proofs.Reading.{read_count, read_at}
use Rattle.arrays.specs.declared.build.Model.{Model}
use Rattle.keys.specs.Slack.{slack_of, slack_at, slack_in, slacks_of}
use Rattle.search.specs.Modelled.{Modelled}

module _ {model : Model} {f g : ℕ} (m : Modelled model f g) where
  -- there are as many slacks as flows
  slacks_count : length (tabulate (slack_in model.flows.all) 0 model.flows.count) ≡ model.flows.count
  slacks_count = tabulate_length (slack_in model.flows.all) 0 model.flows.count

  -- the slack of a packet is that of its flow
  slack_is : (p : ℕ) → p < model.packets.count → flow_key (slacks_of model) (flow_numbers model.packets.all) p ≡ slack_at (packets_read model) p
  unfolding flow_key key_in slack_at slack_of slack_in slacks_of packet_in
  slack_is p h =
      let slack : ℕ → ℕ = slack_in model.flows.all in
      let own : ℕ = (nth_packet model.packets.all p).flow in
      let same : get_or (flow_numbers model.packets.all) p 0 ≡ own = number_at model.packets.all p in
      let below : own < model.flows.count = omega (arith, same, m.grouped.flow_in p h) in
      ap (λ (f : ℕ). get_or (padded 64 0 (tabulate slack 0 model.flows.count)) f 0) same
      ∙ padded_at 64 0 (tabulate slack 0 model.flows.count) own 0 (omega (arith, slacks_count))
      ∙ tabulate_at slack 0 model.flows.count own 0 below
      ∙ ap slack (zero-add own)
      ∙ omega (
        arith,
        ap (λ (r : Packet). r.deadline) (read_at model p h),
        ap (λ (r : Packet). r.release) (read_at model p h),
        ap (λ (r : Packet). r.occupancy) (read_at model p h),
      )

  -- so the packets in order of their flows' slacks are in order of least slack
  pub slack_order : (key flow : List ℕ) → key ≡ slacks_of model → flow ≡ flow_numbers model.packets.all
      → sorted (flow_key key flow) 0 model.packets.count ≡ sorted (slack_at (packets_read model)) 0 (length (packets_read model))
  slack_order key flow e ef =
      ap₂ (λ (k n : List ℕ). sorted (flow_key k n) 0 model.packets.count) e ef
      ∙ sorted_same (flow_key (slacks_of model) (flow_numbers model.packets.all)) (slack_at (packets_read model)) 0 model.packets.count (λ p h k. slack_is p (omega arith))
      ∙ ap (sorted (slack_at (packets_read model)) 0) (sym (read_count model))
