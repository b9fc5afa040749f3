-- The model as it is built: the flows up to a flow, and the packets up to a packet of a flow.
use mathlib.Core.Path.{◌≡◌, refl, sym, ◌∙◌, ap, ap₂}
use mathlib.Core.List.{List, [], ◌∷◌, ◌++◌, append_assoc, append-nil}
use Prim.Native.Nat.{ℕ, ◌+◌, ◌*◌, ◌/◌, ◌≤◌, ◌<◌}
use native.Mathlib.Nat.{zero-add, suc-mul, mul-le-mul_right}
use native.Mathlib.Numerals.{add-one}
use native.Mathlib.Omega.{arith}
use lib.ListN.{length, length-append}
use Rattle.basics.specs.Lists.{tabulate}
use Rattle.basics.specs.Sums.{sum_of}
use Rattle.basics.proofs.Lists.{tabulate_length, tabulate_snoc}
use Rattle.basics.proofs.Sums.{sum_part}
use Rattle.routes.specs.Route.{path_of, route_of}
use Rattle.routes.specs.declared.paths.Path.{Path}
use Rattle.time.specs.Units.{turns_of}
use Rattle.packet.specs.Packet.{Packet}
use Rattle.model.specs.Flows.{period_of, flow_of, flows_in, links_of_flow, occupancy_in}
use Rattle.model.specs.declared.flows.Flow.{Flow}
use Rattle.model.specs.Packets.{hyper_in, turns_in, packets_in, packet_of, packets_from, packets_of}
use Rattle.model.specs.Fair.{Fair}
use Rattle.model.specs.declared.flows.Mesh.{Mesh}
use Rattle.model.proofs.InTime.{fair_timed, hyper_whole}
use Rattle.model.proofs.Numbering.{packets_before, packets_grow}
use Rattle.arrays.specs.Arrays.{Packable, no_flows, entry_of_flow, flows_up_to, entry_of_packet, arrays_of, with_one, model_of}
use Rattle.arrays.specs.declared.build.Flows.{Flows}
use Rattle.arrays.specs.declared.build.Packets.{Packets}
use Rattle.arrays.proofs.Filling.{one_more}

-- ---- the flows

-- a flow made of its five numbers, its occupancy and its route
pub entry_is : (mesh : Mesh) (numbers : List ℕ) (f : ℕ) (flow : Flow) (occupancy : ℕ) (path : Path) → flow ≡ flow_of numbers f
    → occupancy ≡ occupancy_in mesh numbers f → path ≡ path_of (route_of mesh.columns flow.source flow.target)
    → record { period = flow.period; due = flow.due; occupancy = occupancy; path = path } ≡ entry_of_flow mesh numbers f
unfolding entry_of_flow flow_of links_of_flow
entry_is mesh numbers f flow occupancy path e o p = rw (p, o, e) refl

-- where the flows stand before flow f
pub record Listing (mesh : Mesh) (numbers : List ℕ) (flows : Flows) (f : ℕ) : Type 0 where
  pub its_flows : flows ≡ flows_up_to mesh numbers f
  pub within : f ≤ flows_in numbers

-- no flow stands before the first
pub listing_none : (mesh : Mesh) (numbers : List ℕ) (flows : Flows) → flows ≡ no_flows → Listing mesh numbers flows 0
unfolding no_flows flows_up_to tabulate
listing_none mesh numbers flows e = record { its_flows = e; within = omega arith }

-- past the last flow all stand there
pub listing_all : (mesh : Mesh) (numbers : List ℕ) (flows : Flows) (f : ℕ) → Listing mesh numbers flows f → flows_in numbers ≤ f
    → flows ≡ flows_up_to mesh numbers (flows_in numbers)
listing_all mesh numbers flows f l h =
    let e : f ≡ flows_in numbers = omega (arith, l.within) in
    l.its_flows ∙ ap (flows_up_to mesh numbers) e

-- ---- the packets

-- the packets of the flows before flow f, and the first k of its own
pub before : Mesh → List ℕ → ℕ → ℕ → List Packet
before mesh numbers f k = packets_from mesh numbers 0 f ++ tabulate (packet_of mesh numbers f) 0 k

-- where the packets stand before packet k of flow f
pub record Packing (numbers : List ℕ) (packets : Packets) (f k : ℕ) : Type 0 where
  pub its_packets : (mesh : Mesh) → packets ≡ arrays_of (before mesh numbers f k)
  pub counted : packets.count ≡ sum_of (turns_in numbers) f + k
  pub flow_within : f ≤ flows_in numbers
  pub turn_within : k ≤ turns_in numbers f

-- no packet stands before the first
pub packing_none : (numbers : List ℕ) (packets : Packets) → packets ≡ arrays_of [] → Packing numbers packets 0 0
unfolding before packets_from tabulate sum_of arrays_of
packing_none numbers packets e = record {
  its_packets = λ mesh. e;
  counted = ap (λ (r : Packets). r.count) e;
  flow_within = omega arith;
  turn_within = omega arith;
}

-- past the last flow all stand there
pub packing_all : (numbers : List ℕ) (packets : Packets) (f : ℕ) → Packing numbers packets f 0 → flows_in numbers ≤ f
    → (mesh : Mesh) → packets ≡ arrays_of (packets_of mesh numbers)
unfolding before packets_of tabulate
packing_all numbers packets f p h mesh =
    let e : f ≡ flows_in numbers = omega (arith, p.flow_within) in
    p.its_packets mesh
    ∙ ap arrays_of (append-nil (packets_from mesh numbers 0 f))
    ∙ ap (λ (n : ℕ). arrays_of (packets_from mesh numbers 0 n)) e

module _ {numbers : List ℕ} (f : ℕ) {hyper period : ℕ} (asked : Packable numbers hyper) (ep : period ≡ period_of numbers f) where
  -- a flow has H div T packets
  pub turns_are : hyper / period ≡ turns_in numbers f
  unfolding turns_in turns_of
  turns_are = ap₂ ◌/◌ asked.hyper_is ep

  -- each of them is released within the hyper-period
  pub release_within : (k : ℕ) → f < flows_in numbers → k < hyper / period → k * period ≤ hyper
  release_within k below h =
      let whole : hyper / period * period ≡ hyper_in numbers = ap₂ ◌*◌ turns_are ep ∙ hyper_whole numbers asked.timed f below in
      omega (arith, mul-le-mul_right period h, suc-mul k period, asked.hyper_is)

module _ {numbers : List ℕ} {packets : Packets} {f k : ℕ} (packing : Packing numbers packets f k) (below : f < flows_in numbers) where
  -- past the last packet of a flow the next flow's begin
  pub packing_flow : turns_in numbers f ≤ k → Packing numbers packets (f + 1) 0
  unfolding before tabulate sum_of
  packing_flow h =
      let e : k ≡ turns_in numbers f = omega (arith, packing.turn_within) in
      record {
        its_packets = λ mesh.
            packing.its_packets mesh
            ∙ ap (λ (n : ℕ). arrays_of (packets_from mesh numbers 0 f ++ tabulate (packet_of mesh numbers f) 0 n)) e
            ∙ ap arrays_of (sym (packets_grow mesh numbers f))
            ∙ ap (λ (n : ℕ). arrays_of (packets_from mesh numbers 0 n)) (sym (add-one f))
            ∙ ap arrays_of (sym (append-nil (packets_from mesh numbers 0 (f + 1))));
        counted = rw (add-one f) (omega (arith, packing.counted));
        flow_within = omega arith;
        turn_within = omega arith;
      }

  module _ {hyper period : ℕ} (asked : Packable numbers hyper) (ep : period ≡ period_of numbers f) (h : k < hyper / period) where
    -- there is room for one more packet
    pub packing_room : packets.count < 1024
    unfolding packets_in
    packing_room = omega (arith, packing.counted, turns_are f asked ep, sum_part (turns_in numbers) f (flows_in numbers) below, asked.packets_high)

    -- with one more packet the next of the flow is due
    pub packing_turn : Packing numbers (with_one packets (record { flow = f; release = k * period })) f (k + 1)
    unfolding before packet_of entry_of_packet
    packing_turn = record {
      its_packets = λ mesh.
          let ps = before mesh numbers f k in
          let own = tabulate (packet_of mesh numbers f) 0 k in
          let p = packet_of mesh numbers f k in
          let len : length ps ≡ packets.count = omega (arith, packing.counted, packets_before mesh numbers f, tabulate_length (packet_of mesh numbers f) 0 k, length-append (packets_from mesh numbers 0 f) own) in
          ap₂ (λ (a : Packets) (T : ℕ). with_one a (record { flow = f; release = k * T })) (packing.its_packets mesh) ep
          ∙ one_more ps p (omega (arith, packing_room))
          ∙ ap arrays_of (append_assoc (packets_from mesh numbers 0 f) own (p ∷ []))
          ∙ ap (λ (i : ℕ). arrays_of (packets_from mesh numbers 0 f ++ (own ++ (packet_of mesh numbers f i ∷ [])))) (sym (zero-add k))
          ∙ ap (λ (l : List Packet). arrays_of (packets_from mesh numbers 0 f ++ l)) (sym (tabulate_snoc (packet_of mesh numbers f) 0 k))
          ∙ ap (λ (n : ℕ). arrays_of (before mesh numbers f n)) (sym (add-one k));
      counted = omega (arith, packing.counted);
      flow_within = packing.flow_within;
      turn_within = omega (arith, turns_are f asked ep);
    }

-- ---- the model

-- a model that is not refused is what its packets ask
pub packable : (mesh : Mesh) (numbers : List ℕ) (hyper : ℕ) → Fair mesh numbers → hyper ≡ hyper_in numbers → Packable numbers hyper
packable mesh numbers hyper fair e = record {
  timed = fair_timed mesh numbers fair;
  hyper_is = e;
  hyper_high = omega (arith, fair.hyper_high);
  packets_high = fair.packets_high;
}

-- the hyper-period, the flows and the packets make the model
pub built : (mesh : Mesh) (numbers : List ℕ) (hyper : ℕ) (flows : Flows) (packets : Packets) → hyper ≡ hyper_in numbers
    → flows ≡ flows_up_to mesh numbers (flows_in numbers) → packets ≡ arrays_of (packets_of mesh numbers)
    → record { hyper = hyper; flows = flows; packets = packets } ≡ model_of mesh numbers
unfolding model_of
built mesh numbers hyper flows packets eh ef ep = λ (i : 𝕀). record { hyper = eh i; flows = ef i; packets = ep i }
