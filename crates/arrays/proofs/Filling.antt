-- Arrays filled from the front: the flows by one more flow, the packets by one more packet.
use mathlib.Core.Path.{◌≡◌, sym, ◌∙◌, ap}
use mathlib.Core.List.{List, [], ◌∷◌, ◌++◌, map, map-append}
use Prim.Native.Nat.{ℕ, ◌+◌, ◌<◌}
use native.Mathlib.Omega.{arith}
use lib.ListN.{length, set, length-append, length-map}
use Rattle.basics.specs.Lists.{padded}
use Rattle.basics.proofs.Lists.{padded_push, padded_next}
use Rattle.packet.specs.Packet.{Packet}
use Rattle.load.specs.Entries.{no_packet}
use Rattle.load.specs.declared.entries.FlowEntry.{FlowEntry}
use Rattle.load.specs.declared.entries.PacketEntry.{PacketEntry}
use Rattle.arrays.specs.Arrays.{empty_flow, entry_of_flow, flows_up_to, entry_of_packet, arrays_of, with_flow, with_one}
use Rattle.model.specs.declared.flows.Mesh.{Mesh}
use Rattle.arrays.specs.declared.build.Flows.{Flows}
use Rattle.arrays.specs.declared.build.Packets.{Packets}

-- the flows with the next one stored behind them are the flows up to it
pub flow_next : (mesh : Mesh) (numbers : List ℕ) (flows : Flows) (f : ℕ) (flow : FlowEntry) → f < 64
    → flows ≡ flows_up_to mesh numbers f → flow ≡ entry_of_flow mesh numbers f
    → with_flow flows flow ≡ flows_up_to mesh numbers (f + 1)
unfolding flows_up_to
flow_next mesh numbers flows f flow h e d =
    let all : List FlowEntry → Flows = λ l. record { count = f + 1; all = l } in
    let n : flows.count ≡ f = ap (λ (r : Flows). r.count) e in
    ap (λ (k : ℕ). with_flow (record { count = k; all = flows.all }) flow) n
    ∙ ap all (padded_next 64 empty_flow (entry_of_flow mesh numbers) f h (ap (λ (r : Flows). r.all) e) d)

-- ---- packets

-- one more entry of the packets' list is one more in the array made of it
stored : (ps : List Packet) (p : Packet) → length ps < 1024
    → set (padded 1024 no_packet (map entry_of_packet ps)) (length ps) (entry_of_packet p) ≡ padded 1024 no_packet (map entry_of_packet (ps ++ (p ∷ [])))
stored ps p h =
    ap (λ (k : ℕ). set (padded 1024 no_packet (map entry_of_packet ps)) k (entry_of_packet p)) (sym (length-map ps entry_of_packet))
    ∙ padded_push 1024 no_packet (map entry_of_packet ps) (entry_of_packet p) (omega (arith, length-map ps entry_of_packet))
    ∙ ap (padded 1024 no_packet) (sym (map-append entry_of_packet ps (p ∷ [])))

-- a packet more in the list is one more in its arrays
pub one_more : (ps : List Packet) (p : Packet) → length ps < 1024 → with_one (arrays_of ps) (entry_of_packet p) ≡ arrays_of (ps ++ (p ∷ []))
unfolding arrays_of
one_more ps p h =
    let packed : ℕ → List PacketEntry → Packets = λ n l. record { count = n; all = l } in
    ap (packed (length ps + 1)) (stored ps p h)
    ∙ ap (λ (n : ℕ). packed n (padded 1024 no_packet (map entry_of_packet (ps ++ (p ∷ []))))) (sym (length-append ps (p ∷ [])))
