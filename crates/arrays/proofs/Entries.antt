-- What stands in the arrays of flows and packets: at a flow its numbers and its path, at a packet its flow and release.
use mathlib.Core.Path.{◌≡◌, refl, sym, ◌∙◌, ap, ap₂}
use mathlib.Core.List.{List, ◌∷◌, ◌++◌, map, map-append}
use Prim.Native.Nat.{ℕ, zero, suc, ◌-◌, ◌≤◌, ◌<◌}
use native.Mathlib.Nat.{zero-add}
use native.Mathlib.Omega.{arith}
use lib.ListN.{length, get_or, replicate, length-map, get_or-map}
use Rattle.std.proofs.lemmas.Simd.{map-map}
use Rattle.basics.specs.Lists.{tabulate, padded}
use Rattle.basics.proofs.Lists.{tabulate_length, tabulate_at, padded_length, padded_at, padded_take}
use Rattle.routes.specs.Route.{path_of, links_of}
use Rattle.packet.specs.Packet.{Packet, absent}
use Rattle.packet.specs.Table.{packet_at}
use Rattle.load.specs.Entries.{no_flow, no_packet, nth_flow, nth_packet}
use Rattle.load.specs.declared.entries.FlowEntry.{FlowEntry}
use Rattle.load.specs.declared.entries.PacketEntry.{PacketEntry}
use Rattle.model.specs.Flows.{period_of, due_of, flows_in, links_of_flow, occupancy_in}
use Rattle.model.specs.Packets.{packets_in, packets_of}
use Rattle.arrays.specs.Arrays.{empty_flow, entry_of_flow, flows_up_to, entry_of_packet, flow_numbers, arrays_of}
use Rattle.model.specs.declared.flows.Mesh.{Mesh}
use Rattle.model.proofs.Numbering.{packets_length}

-- the number of a packet's flow
pub number_at : (packets : List PacketEntry) (p : ℕ) → get_or (flow_numbers packets) p 0 ≡ (nth_packet packets p).flow
unfolding flow_numbers
number_at packets p = get_or-map (λ (r : PacketEntry). r.flow) packets p no_packet

-- where there are no packets there are no numbers
fill_numbers : (n : ℕ) → map (λ (r : PacketEntry). r.flow) (replicate n no_packet) ≡ replicate n 0
fill_numbers zero = refl
fill_numbers (suc n) = ap (λ (l : List ℕ). 0 ∷ l) (fill_numbers n)

-- the numbers of the flows of a list of packets
pub numbers_are : (ps : List Packet) → flow_numbers (arrays_of ps).all ≡ padded 1024 0 (map (λ (p : Packet). p.flow) ps)
unfolding flow_numbers arrays_of entry_of_packet padded
numbers_are ps =
    let own = map entry_of_packet ps in
    let n = 1024 - length own in
    map-append (λ (r : PacketEntry). r.flow) own (replicate n no_packet)
    ∙ ap₂ ◌++◌ (map-map (λ (r : PacketEntry). r.flow) entry_of_packet ps) (fill_numbers n)
    ∙ ap (λ (k : ℕ). map (λ (p : Packet). p.flow) ps ++ replicate (1024 - k) 0) (length-map ps entry_of_packet ∙ sym (length-map ps (λ (p : Packet). p.flow)))

-- there are 1,024 numbers of flows
pub numbers_long : (ps : List Packet) → length ps ≤ 1024 → length (flow_numbers (arrays_of ps).all) ≡ 1024
unfolding flow_numbers arrays_of
numbers_long ps h =
    let own = map entry_of_packet ps in
    length-map (padded 1024 no_packet own) (λ (r : PacketEntry). r.flow)
    ∙ padded_length 1024 no_packet own (omega (arith, length-map ps entry_of_packet))

module _ (mesh : Mesh) (numbers : List ℕ) where
  module _ (f : ℕ) (h : f < flows_in numbers) where
    -- a flow of the array
    pub flow_is : nth_flow (flows_up_to mesh numbers (flows_in numbers)).all f ≡ entry_of_flow mesh numbers f
    unfolding flows_up_to
    flow_is =
        padded_at 64 empty_flow (tabulate (entry_of_flow mesh numbers) 0 (flows_in numbers)) f no_flow (rw tabulate_length h)
        ∙ tabulate_at (entry_of_flow mesh numbers) 0 (flows_in numbers) f no_flow h
        ∙ ap (entry_of_flow mesh numbers) (zero-add f)

    -- its period
    pub period_entry : (nth_flow (flows_up_to mesh numbers (flows_in numbers)).all f).period ≡ period_of numbers f
    unfolding entry_of_flow
    period_entry = ap (λ (r : FlowEntry). r.period) flow_is

    -- its deadline
    pub due_entry : (nth_flow (flows_up_to mesh numbers (flows_in numbers)).all f).due ≡ due_of numbers f
    unfolding entry_of_flow
    due_entry = ap (λ (r : FlowEntry). r.due) flow_is

    -- its occupancy
    pub occupancy_entry : (nth_flow (flows_up_to mesh numbers (flows_in numbers)).all f).occupancy ≡ occupancy_in mesh numbers f
    unfolding entry_of_flow
    occupancy_entry = ap (λ (r : FlowEntry). r.occupancy) flow_is

    -- its path
    pub path_entry : (nth_flow (flows_up_to mesh numbers (flows_in numbers)).all f).path ≡ path_of (links_of_flow mesh numbers f)
    unfolding entry_of_flow
    path_entry = ap (λ (r : FlowEntry). r.path) flow_is

    -- the links of its path
    pub links_entry : links_of (nth_flow (flows_up_to mesh numbers (flows_in numbers)).all f).path ≡ links_of_flow mesh numbers f
    unfolding links_of path_of
    links_entry = ap links_of path_entry ∙ padded_take 32 0 (links_of_flow mesh numbers f)

  module _ (p : ℕ) (h : p < packets_in numbers) where
    -- a packet of the array
    pub packet_is : nth_packet (arrays_of (packets_of mesh numbers)).all p ≡ entry_of_packet (packet_at (packets_of mesh numbers) p)
    unfolding arrays_of entry_of_packet packet_at
    packet_is =
        padded_at 1024 no_packet (map entry_of_packet (packets_of mesh numbers)) p no_packet (rw (length-map, packets_length) h)
        ∙ get_or-map entry_of_packet (packets_of mesh numbers) p absent

    -- its flow
    pub flow_entry : (nth_packet (arrays_of (packets_of mesh numbers)).all p).flow ≡ (packet_at (packets_of mesh numbers) p).flow
    unfolding entry_of_packet
    flow_entry = ap (λ (r : PacketEntry). r.flow) packet_is

    -- its release
    pub release_entry : (nth_packet (arrays_of (packets_of mesh numbers)).all p).release ≡ (packet_at (packets_of mesh numbers) p).release
    unfolding entry_of_packet
    release_entry = ap (λ (r : PacketEntry). r.release) packet_is
