-- A model that is not refused has slack in each of its flows, and its packets are numbered flow after flow.
use mathlib.Core.Path.{◌≡◌}
use mathlib.Core.List.{List}
use Prim.Native.Nat.{ℕ, ◌<◌}
use native.Mathlib.Omega.{arith}
use lib.ListN.{length}
use Rattle.order.specs.Grouped.{Grouped}
use Rattle.model.specs.Packets.{packets_in, packets_of}
use Rattle.model.specs.Fair.{Fair}
use Rattle.model.specs.declared.flows.Mesh.{Mesh}
use Rattle.model.proofs.Numbering.{packets_length, flows_rise}
use Rattle.model.proofs.InTime.{packets_in_time}
use Rattle.arrays.specs.Arrays.{flows_up_to, flow_numbers, arrays_of, model_of}
use Rattle.arrays.proofs.Entries.{due_entry, occupancy_entry, number_at, flow_entry, numbers_long}
use Rattle.keys.specs.Slack.{Keyed}

module _ (mesh : Mesh) (numbers : List ℕ) (fair : Fair mesh numbers) where
  -- no occupancy is above its D
  pub fair_keyed : Keyed (model_of mesh numbers)
  unfolding model_of flows_up_to
  fair_keyed = record {
    few = fair.list.flows_high;
    fits = λ g h. omega (arith, due_entry mesh numbers g h, occupancy_entry mesh numbers g h, (fair.flows g h).fits);
  }

  -- the packets stand flow after flow
  pub fair_grouped : Grouped (flow_numbers (model_of mesh numbers).packets.all) (model_of mesh numbers).flows.count (model_of mesh numbers).packets.count
  unfolding model_of flows_up_to arrays_of
  fair_grouped =
      let ps = packets_of mesh numbers in
      let size : length (packets_of mesh numbers) ≡ packets_in numbers = packets_length mesh numbers in
      record {
        long = numbers_long ps (omega (arith, size, fair.packets_high));
        few = omega (arith, size, fair.packets_high);
        few_flows = fair.list.flows_high;
        flow_in = λ p h.
            let l : p < packets_in numbers = omega (arith, size) in
            omega (arith, number_at (arrays_of ps).all p, flow_entry mesh numbers p l, (packets_in_time mesh numbers fair p l).flow_in);
        rising = λ p q h k.
            let l : q < packets_in numbers = omega (arith, size) in
            omega (arith, number_at (arrays_of ps).all p, number_at (arrays_of ps).all q, flow_entry mesh numbers p (omega arith), flow_entry mesh numbers q l, flows_rise mesh numbers p q h l);
      }
