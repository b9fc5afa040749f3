-- The packets read off the arrays are the packets of the model, and their numbers are small.
use mathlib.Core.Path.{◌≡◌, sym, ◌∙◌, ap, ap₂, subst}
use mathlib.Core.List.{List}
use Prim.Native.Nat.{ℕ, ◌+◌, ◌/◌, ◌<◌}
use native.Mathlib.Nat.{zero-add, mul-div_cancel}
use native.Mathlib.Omega.{arith}
use lib.ListN.{length}
use lib.Seq.{ext_get_or}
use Rattle.basics.proofs.Lists.{tabulate_length, tabulate_at}
use Rattle.routes.specs.Route.{path_of, links_of}
use Rattle.routes.specs.declared.paths.Path.{Path}
use Rattle.packet.specs.Packet.{absent}
use Rattle.packet.specs.Table.{packet_at}
use Rattle.packet.proofs.Packet.{packet_same}
use Rattle.load.specs.Entries.{nth_flow, nth_packet}
use Rattle.model.specs.Flows.{period_of, flows_in}
use Rattle.model.specs.Packets.{packets_in, packets_of}
use Rattle.model.specs.Fair.{Fair}
use Rattle.arrays.specs.Arrays.{flows_up_to, arrays_of, model_of, packet_in, packets_read, InBounds}
use Rattle.model.specs.declared.flows.Mesh.{Mesh}
use Rattle.arrays.specs.declared.build.Model.{Model}
use Rattle.model.proofs.Numbering.{packets_length}
use Rattle.model.proofs.InTime.{InTime, packets_in_time}
use Rattle.arrays.proofs.Entries.{period_entry, due_entry, occupancy_entry, path_entry, links_entry, flow_entry, release_entry}

module _ (model : Model) where
  -- as many packets are read as the arrays have
  pub read_count : length (packets_read model) ≡ model.packets.count
  unfolding packets_read
  read_count = tabulate_length (packet_in model.flows model.packets) 0 model.packets.count

  -- each is read off the arrays
  pub read_at : (p : ℕ) → p < model.packets.count → packet_at (packets_read model) p ≡ packet_in model.flows model.packets p
  unfolding packets_read packet_at
  read_at p h =
      tabulate_at (packet_in model.flows model.packets) 0 model.packets.count p absent h
      ∙ ap (packet_in model.flows model.packets) (zero-add p)

module _ (mesh : Mesh) (numbers : List ℕ) (fair : Fair mesh numbers) where
  -- there are as many packets in the arrays as in the model
  pub model_count : (model_of mesh numbers).packets.count ≡ packets_in numbers
  unfolding model_of arrays_of
  model_count = packets_length mesh numbers

  -- packet p of the arrays is packet p of the model
  pub packet_in_lem : (p : ℕ) → p < packets_in numbers → packet_in (model_of mesh numbers).flows (model_of mesh numbers).packets p ≡ packet_at (packets_of mesh numbers) p
  unfolding model_of packet_in
  packet_in_lem p h =
      let q = packet_at (packets_of mesh numbers) p in
      let t = packets_in_time mesh numbers fair p h in
      let ef = flow_entry mesh numbers p h in
      let er = release_entry mesh numbers p h in
      let flows = flows_up_to mesh numbers (flows_in numbers) in
      let at : ℕ = (nth_packet (arrays_of (packets_of mesh numbers)).all p).flow in
      let period : (nth_flow flows.all at).period ≡ period_of numbers q.flow = ap (λ (f : ℕ). (nth_flow flows.all f).period) ef ∙ period_entry mesh numbers q.flow t.flow_in in
      packet_same (packet_in (model_of mesh numbers).flows (model_of mesh numbers).packets p) q ef
      (ap₂ ◌/◌ er period ∙ ap (λ (n : ℕ). n / period_of numbers q.flow) t.released ∙ mul-div_cancel q.turn (fair.flows q.flow t.flow_in).times.period_low)
      er
      (ap₂ ◌+◌ er (ap (λ (f : ℕ). (nth_flow flows.all f).due) ef ∙ due_entry mesh numbers q.flow t.flow_in) ∙ sym t.due)
      (ap (λ (f : ℕ). (nth_flow flows.all f).occupancy) ef ∙ occupancy_entry mesh numbers q.flow t.flow_in ∙ sym t.holding)
      (ap (λ (f : ℕ). links_of (nth_flow flows.all f).path) ef ∙ links_entry mesh numbers q.flow t.flow_in ∙ sym t.along)

  -- so all packets of the arrays are those of the model
  pub packets_read_lem : packets_read (model_of mesh numbers) ≡ packets_of mesh numbers
  unfolding packet_at
  packets_read_lem =
      let n = read_count (model_of mesh numbers) in
      ext_get_or absent (packets_read (model_of mesh numbers)) (packets_of mesh numbers) (n ∙ model_count ∙ sym (packets_length mesh numbers)) (λ p h.
      read_at (model_of mesh numbers) p (omega arith) ∙ packet_in_lem p (omega (arith, model_count)))

  -- the path of packet p in the arrays lists its links
  pub path_in_lem : (p : ℕ) → p < packets_in numbers
      → (nth_flow (model_of mesh numbers).flows.all (nth_packet (model_of mesh numbers).packets.all p).flow).path.len ≡ length (packet_at (packets_of mesh numbers) p).path
  unfolding model_of path_of
  path_in_lem p h =
      let q = packet_at (packets_of mesh numbers) p in
      let t = packets_in_time mesh numbers fair p h in
      ap (λ (f : ℕ). (nth_flow (flows_up_to mesh numbers (flows_in numbers)).all f).path.len) (flow_entry mesh numbers p h)
      ∙ ap (λ (r : Path). r.len) (path_entry mesh numbers q.flow t.flow_in)
      ∙ ap length (sym t.along)

  -- the model is what the code over its arrays asks
  pub model_in_bounds : InBounds (model_of mesh numbers).flows (model_of mesh numbers).packets
  model_in_bounds =
      let below : (p : ℕ) → p < (model_of mesh numbers).packets.count → p < packets_in numbers = λ p h. subst (λ (n : ℕ). p < n) model_count h in
      let in_time : (p : ℕ) (h : p < (model_of mesh numbers).packets.count) → InTime mesh numbers (packet_in (model_of mesh numbers).flows (model_of mesh numbers).packets p) =
      λ p h. subst (InTime mesh numbers) (sym (packet_in_lem p (below p h))) (packets_in_time mesh numbers fair p (below p h))
      in
      record {
        few = omega (arith, model_count, fair.packets_high);
        flow_in = λ p h. flow_read p (in_time p h);
        soon = λ p h. (in_time p h).deadline_small;
        fits = λ p h. (in_time p h).fits;
        short = λ p h. omega (arith, path_in_lem p (below p h), (packets_in_time mesh numbers fair p (below p h)).path_small);
      }
    where
      flow_read : (p : ℕ) → InTime mesh numbers (packet_in (model_of mesh numbers).flows (model_of mesh numbers).packets p) → (nth_packet (model_of mesh numbers).packets.all p).flow < 64
      flow_read p t = unfold packet_in in t.flow_small
