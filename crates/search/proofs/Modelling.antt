-- A model that is not refused is what the search asks, and what the passes read of it are its packets.
-- In order: what an array reads as behind what it was filled with; what the search asks of the model; what the passes
-- ask; and that they leave what the search of the model's packets leaves.
use mathlib.Core.Path.{◌≡◌, refl, sym, ◌∙◌, ap, subst}
use mathlib.Core.List.{List, [], ◌++◌, map}
use Prim.Native.Nat.{ℕ, ◌+◌, ◌-◌, ◌≤◌, ◌<◌}
use native.Mathlib.Nat.{lt_of_not-le}
use native.Mathlib.Decide.{dec_le}
use native.Mathlib.Omega.{arith}
use lib.ListN.{length, get_or, take, replicate, length-map, get_or-replicate, get_or-eq_default}
use lib.Seq.{get_or-append-add}
use Rattle.basics.specs.Lists.{tabulate, padded}
use Rattle.basics.proofs.Lists.{tabulate_length, padded_length, padded_at}
use Rattle.mesh.specs.Link.{all_links}
use Rattle.routes.specs.Route.{path_of}
use Rattle.routes.specs.declared.paths.Path.{Path}
use Rattle.routes.proofs.XY.{route_numbers}
use Rattle.hyperperiod.specs.Hyper.{most}
use Rattle.packet.specs.Packet.{Packet, absent}
use Rattle.packet.specs.Table.{packet_at}
use Rattle.model.specs.Flows.{source_of, target_of, flows_in, links_of_flow}
use Rattle.model.specs.Packets.{packets_in, packet_of, packets_of}
use Rattle.model.specs.Fair.{Fair}
use Rattle.arrays.specs.Arrays.{empty_flow, entry_of_flow, flows_up_to, entry_of_packet, arrays_of, model_of, packet_in, packets_read}
use Rattle.model.specs.declared.flows.Mesh.{Mesh}
use Rattle.arrays.specs.declared.build.Model.{Model}
use Rattle.model.proofs.Numbering.{packets_length}
use Rattle.model.proofs.InTime.{InTime, turns_low, fair_timed, packet_in_time, packets_in_time}
use Rattle.arrays.proofs.Entries.{occupancy_entry, path_entry, flow_entry}
use Rattle.arrays.proofs.Reading.{read_count, read_at, model_count, packet_in_lem, path_in_lem}
use Rattle.load.specs.Entries.{no_flow, no_packet, nth_flow, nth_packet}
use Rattle.load.specs.declared.entries.FlowEntry.{FlowEntry}
use Rattle.load.specs.declared.entries.PacketEntry.{PacketEntry}
use Rattle.load.specs.Load.{flow_at, span_of, path_in, Paths}
use Rattle.load.proofs.Paths.{path_length}
use Rattle.std.specs.Prelude.{Option}
use Rattle.placing.specs.Traffic.{packet_held, packets_held}
use Rattle.load.specs.declared.traffic.Traffic.{Traffic}
use Rattle.placing.proofs.Bridging.{packets_count, packets_at}
use Rattle.passes.specs.Passes.{search_from}
use Rattle.passes.specs.Stand.{Ready}
use Rattle.passes.specs.Search.{found_of, Searched}
use Rattle.passes.specs.declared.repeat.Outcome.{Outcome}
use Rattle.passes.proofs.Alike.{Alike, search_alike}
use Rattle.search.specs.Modelled.{Modelled}
use Rattle.search.proofs.Grouping.{fair_keyed, fair_grouped}

-- behind what it was filled with an array holds its filling
pub padded_past {ℓ} : {X : Type ℓ} (n : ℕ) (fill : X) (xs : List X) (k : ℕ) (d : X) → length xs ≤ k → k < n → get_or (padded n fill xs) k d ≡ fill
unfolding padded
padded_past n fill xs k d h l =
    let e : k ≡ length xs + (k - length xs) = omega arith in
    ap (λ (m : ℕ). get_or (xs ++ replicate (n - length xs) fill) m d) e
    ∙ get_or-append-add xs (replicate (n - length xs) fill) (k - length xs) d
    ∙ get_or-replicate (n - length xs) (k - length xs) fill d (omega arith)

module _ (mesh : Mesh) (numbers : List ℕ) (fair : Fair mesh numbers) where
  -- every flow has a first packet, which is in time
  flow_packet : (q : ℕ) → q < flows_in numbers → InTime mesh numbers (packet_of mesh numbers q 0)
  flow_packet q h = packet_in_time mesh numbers fair q 0 h (turns_low numbers (fair_timed mesh numbers fair) q h)

  -- behind the flows all is 0, and no path has a link
  flow_past : (q : ℕ) → flows_in numbers ≤ q → q < 64 → nth_flow (flows_up_to mesh numbers (flows_in numbers)).all q ≡ empty_flow
  unfolding flows_up_to
  flow_past q a h =
      padded_past 64 empty_flow (tabulate (entry_of_flow mesh numbers) 0 (flows_in numbers)) q no_flow
      (omega (arith, tabulate_length (entry_of_flow mesh numbers) 0 (flows_in numbers))) h

  -- what holds of the path of each flow, and of no path, holds of each entry
  each_path : (P : Path → Type 0) → ((q : ℕ) → q < flows_in numbers → P (path_of (links_of_flow mesh numbers q))) → P (path_of [])
      → (q : ℕ) → q < 64 → P (nth_flow (model_of mesh numbers).flows.all q).path
  unfolding model_of
  each_path P own none q h =
      elim (dec_le (flows_in numbers) q) [
        | no a ↦ subst P (sym (path_entry mesh numbers q (lt_of_not-le a))) (own q (lt_of_not-le a))
        | yes a ↦ subst P (sym (ap (λ (r : FlowEntry). r.path) (flow_past q a h))) none
      ]

  -- a flow's path has at most 32 links
  path_short : (q : ℕ) → q < flows_in numbers → length (links_of_flow mesh numbers q) ≤ 32
  unfolding packet_of
  path_short q h = (flow_packet q h).path_small

  -- no occupancy is above the longest hyper-period
  span_small : (q : ℕ) → q < 64 → (nth_flow (model_of mesh numbers).flows.all q).occupancy ≤ most
  unfolding model_of packet_of
  span_small q h =
      elim (dec_le (flows_in numbers) q) [
        | no a ↦
            omega (arith, occupancy_entry mesh numbers q (lt_of_not-le a), (flow_packet q (lt_of_not-le a)).occupancy_small)
        | yes a ↦ omega (arith, ap (λ (r : FlowEntry). r.occupancy) (flow_past q a h))
      ]

  -- every packet's flow is below 64, and 0 is read behind the packets
  flow_small : (q : ℕ) → q < 1024 → (nth_packet (model_of mesh numbers).packets.all q).flow < 64
  unfolding model_of arrays_of
  flow_small q h =
      elim (dec_le (packets_in numbers) q) [
        | no a ↦ omega (arith, flow_entry mesh numbers q (lt_of_not-le a), (packets_in_time mesh numbers fair q (lt_of_not-le a)).flow_small)
        | yes a ↦
            omega (
              arith,
              ap (λ (r : PacketEntry). r.flow) (padded_past 1024 no_packet (map entry_of_packet (packets_of mesh numbers)) q no_packet
                  (omega (arith, length-map (packets_of mesh numbers) entry_of_packet, packets_length mesh numbers)) h),
            )
      ]

  -- the links of a path have numbers of links
  path_numbers : (q : ℕ) → q < flows_in numbers → (a : ℕ) → a < 32 → get_or (padded 32 0 (links_of_flow mesh numbers q)) a 0 < all_links
  unfolding links_of_flow
  path_numbers q h a l =
      let m = fair.fair_mesh in
      let n = (fair.flows q h).nodes in
      let links = links_of_flow mesh numbers q in
      elim (dec_le (length (links_of_flow mesh numbers q)) a) [
        | no b ↦
            let number =
            route_numbers mesh.columns mesh.rows (source_of numbers q) (target_of numbers q) record {
              some_columns = m.columns_low;
              few_columns = m.columns_high;
              few_rows = m.rows_high;
              source_in = n.source_in;
              target_in = n.target_in;
            } a (lt_of_not-le b) in
            omega (arith, padded_at 32 0 links a 0 (lt_of_not-le b), number)
        | yes b ↦ omega (arith, padded_past 32 0 links a 0 b l)
      ]

  -- every packet's path has a link
  routed_entry : (p : ℕ) → p < packets_in numbers
      → 0 < (nth_flow (model_of mesh numbers).flows.all (nth_packet (model_of mesh numbers).packets.all p).flow).path.len
  routed_entry p h = omega (arith, path_in_lem mesh numbers fair p h, (packets_in_time mesh numbers fair p h).routed)

  -- the model is what the search asks
  pub fair_modelled : (f g : ℕ) → 0 < f → f ≤ 65536 → 0 < g → g ≤ 16 → Modelled (model_of mesh numbers) f g
  unfolding path_of
  fair_modelled f g a b c d =
      let in_time : (p : ℕ) → p < (model_of mesh numbers).packets.count
      → InTime mesh numbers (packet_in (model_of mesh numbers).flows (model_of mesh numbers).packets p) =
      λ p h.
      let l : p < packets_in numbers = omega (arith, model_count mesh numbers fair) in
      subst (InTime mesh numbers) (sym (packet_in_lem mesh numbers fair p l)) (packets_in_time mesh numbers fair p l)
      in
      record {
        busy = λ p h. (in_time p h).busy;
        fits = λ p h. (in_time p h).fits;
        ends = λ p h. (in_time p h).deadline_small;
        routed = λ p h. routed_entry p (omega (arith, model_count mesh numbers fair));
        keyed = fair_keyed mesh numbers fair;
        grouped = fair_grouped mesh numbers fair;
        flows = flow_small;
        spans = span_small;
        whole =
            each_path (λ (r : Path). length r.links ≡ 32) (λ q h. padded_length 32 0 (links_of_flow mesh numbers q) (path_short q h))
            (padded_length 32 0 [] (omega arith));
        short = each_path (λ (r : Path). r.len ≤ 32) path_short (omega arith);
        numbers =
            each_path (λ (r : Path). (a : ℕ) → a < 32 → get_or r.links a 0 < all_links) path_numbers
            (λ a l. omega (arith, padded_past {X = ℕ} 32 0 [] a 0 (omega arith) l));
        some_step = a;
        small_step = b;
        low = c;
        high = d;
      }

-- what the passes read of a model
abbrev pub traffic_of : Model → ℕ → List (Option ℕ) → Traffic
traffic_of model longest back = record {
  count = model.packets.count;
  packets = model.packets.all;
  flows = model.flows.all;
  longest = longest;
  back = back;
}

module _ {model : Model} {f g : ℕ} (m : Modelled model f g) {longest : ℕ} (reaches : (q : ℕ) → q < 64 → (nth_flow model.flows.all q).occupancy ≤ longest) where
  -- the paths are good
  paths_good : Paths model.flows.all
  paths_good = record { whole = m.whole; short = m.short; numbers = m.numbers }

  -- what the passes ask of the packets
  pub modelled_ready : {back : List (Option ℕ)} → Ready (traffic_of model longest back) f g
  unfolding packet_in flow_at span_of
  modelled_ready = record {
    few = m.grouped.few;
    loaded = record { flows = m.flows; spans = m.spans; paths = paths_good };
    some_step = m.some_step;
    small_step = m.small_step;
    low = m.low;
    high = m.high;
    lasting = m.busy;
    some_links = λ p h. omega (arith, path_length paths_good ((nth_packet model.packets.all p).flow) (m.flows p (omega (arith, m.grouped.few))), m.routed p h);
    fits = λ p h. omega (arith, m.fits p h);
    ends = m.ends;
    longest_of = reaches;
  }

  -- the packets that the passes read are the model's, but for their turns
  modelled_alike : (back : List (Option ℕ)) → Alike (packets_held (traffic_of model longest back)) (packets_read model)
  unfolding packet_held packet_in flow_at span_of path_in packet_at
  modelled_alike back =
      let t = traffic_of model longest back in
      let n = packets_count t in
      let n' = read_count model in
      let same : (X : Type 0) (k : Packet → X) → ((p : ℕ) → p < model.packets.count → k (packet_held t p) ≡ k (packet_in model.flows model.packets p))
      → (p : ℕ) → k (packet_at (packets_held t) p) ≡ k (packet_at (packets_read model) p) =
      λ X k each p.
      elim (dec_le model.packets.count p) [
        | no a ↦
            ap k (packets_at t p (lt_of_not-le a)) ∙ each p (lt_of_not-le a) ∙ ap k (sym (read_at model p (lt_of_not-le a)))
        | yes a ↦
            ap k (get_or-eq_default (packets_held t) absent {n = p} (omega (arith, n)) ∙ sym (get_or-eq_default (packets_read model) absent {n = p} (omega (arith, n'))))
      ] in
      record {
        long = n ∙ sym n';
        releases = same ℕ (λ r. r.release) (λ p h. refl);
        deadlines = same ℕ (λ r. r.deadline) (λ p h. refl);
        spans = same ℕ (λ r. r.occupancy) (λ p h. refl);
        paths = same (List ℕ) (λ r. r.path) (λ p h. refl);
      }

  -- what the passes leave is what the search of the model's packets leaves, from the same list
  pub modelled_search : {back : List (Option ℕ)} {list : List ℕ} {r : Outcome} → Searched (traffic_of model longest back) f g list r
      → (first : List ℕ) → take model.packets.count list ≡ first → found_of model.packets.count r ≡ search_from first (packets_read model) f g
  modelled_search {back} {list} s first e =
      s.same ∙ search_alike (modelled_alike back) f g (take model.packets.count list) ∙ ap (λ (l : List ℕ). search_from l (packets_read model) f g) e
