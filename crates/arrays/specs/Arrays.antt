-- The flows and the packets as the code holds them: arrays of 64 and of 1,024, filled from the front.
use Rattle.std.specs.Prelude.{◌≡◌, List, [], map, ℕ, ◌+◌, ◌/◌, ◌≤◌, ◌<◌, length}
use lib.ListN.{set}
use Rattle.basics.specs.Lists.{tabulate, padded}
use Rattle.routes.specs.Route.{path_of, links_of}
use Rattle.hyperperiod.specs.Hyper.{most}
use Rattle.packet.specs.Packet.{Packet}
use Rattle.load.specs.Entries.{no_packet, nth_flow, nth_packet}
use Rattle.load.specs.declared.entries.FlowEntry.{FlowEntry}
use Rattle.load.specs.declared.entries.PacketEntry.{PacketEntry}
use Rattle.model.specs.Flows.{period_of, due_of, flows_in, links_of_flow, occupancy_in}
use Rattle.model.specs.Packets.{hyper_in, packets_in, packets_of}
use Rattle.model.specs.Fair.{Timed}
use Rattle.model.specs.declared.flows.Mesh.{Mesh}
use Rattle.arrays.specs.declared.build.Flows.{Flows}
use Rattle.arrays.specs.declared.build.Packets.{Packets}
use Rattle.arrays.specs.declared.build.Model.{Model}

-- a flow of 0 with a path without links
abbrev pub empty_flow : FlowEntry
empty_flow = record { period = 0; due = 0; occupancy = 0; path = path_of [] }

-- no flows: every place holds 0, or a path without links
unfoldable pub no_flows : Flows
no_flows = record { count = 0; all = padded 64 empty_flow [] }

-- period, deadline, occupancy and path of flow f
unfoldable pub entry_of_flow : Mesh → List ℕ → ℕ → FlowEntry
entry_of_flow mesh numbers f = record {
  period = period_of numbers f;
  due = due_of numbers f;
  occupancy = occupancy_in mesh numbers f;
  path = path_of (links_of_flow mesh numbers f);
}

-- the first n flows
unfoldable pub flows_up_to : Mesh → List ℕ → ℕ → Flows
flows_up_to mesh numbers n = record { count = n; all = padded 64 empty_flow (tabulate (entry_of_flow mesh numbers) 0 n) }

-- flow and release of a packet
unfoldable pub entry_of_packet : Packet → PacketEntry
entry_of_packet p = record { flow = p.flow; release = p.release }

-- a list of packets
unfoldable pub arrays_of : List Packet → Packets
arrays_of ps = record { count = length ps; all = padded 1024 no_packet (map entry_of_packet ps) }

-- the flows with one more behind them
abbrev pub with_flow : Flows → FlowEntry → Flows
with_flow flows flow = record { count = flows.count + 1; all = set flows.all flows.count flow }

-- the packets with one more behind them
abbrev pub with_one : Packets → PacketEntry → Packets
with_one packets packet = record { count = packets.count + 1; all = set packets.all packets.count packet }

-- the number of each packet's flow
unfoldable pub flow_numbers : List PacketEntry → List ℕ
flow_numbers packets = map (λ (p : PacketEntry). p.flow) packets

-- the model as the code holds it: the hyper-period, the flows and the packets
unfoldable pub model_of : Mesh → List ℕ → Model
model_of mesh numbers = record {
  hyper = hyper_in numbers;
  flows = flows_up_to mesh numbers (flows_in numbers);
  packets = arrays_of (packets_of mesh numbers);
}

-- packet p, read off the arrays
unfoldable pub packet_in : Flows → Packets → ℕ → Packet
packet_in flows packets p =
    let packet = nth_packet packets.all p in
    let flow = nth_flow flows.all packet.flow in
    record {
      flow = packet.flow;
      turn = packet.release / flow.period;
      release = packet.release;
      deadline = packet.release + flow.due;
      occupancy = flow.occupancy;
      path = links_of flow.path;
    }

-- all packets, read off the arrays
unfoldable pub packets_read : Model → List Packet
packets_read model = tabulate (packet_in model.flows model.packets) 0 model.packets.count

-- what code over the arrays asks: packets of its flows, with numbers far below 2 ^ 32 and paths of at most 32 links
pub record InBounds (flows : Flows) (packets : Packets) : Type 0 where
  pub few : packets.count ≤ 1024
  pub flow_in : (p : ℕ) → p < packets.count → (nth_packet packets.all p).flow < 64
  pub soon : (p : ℕ) → p < packets.count → (packet_in flows packets p).deadline ≤ most
  pub fits : (p : ℕ) → p < packets.count → (packet_in flows packets p).release + (packet_in flows packets p).occupancy ≤ (packet_in flows packets p).deadline
  pub short : (p : ℕ) → p < packets.count → (nth_flow flows.all (nth_packet packets.all p).flow).path.len ≤ 32

-- what the packets ask: flows past 6, their hyper-period within its limit, and at most 1,024 packets
pub record Packable (numbers : List ℕ) (hyper : ℕ) : Type 0 where
  pub timed : Timed numbers
  pub hyper_is : hyper ≡ hyper_in numbers
  pub hyper_high : hyper ≤ most
  pub packets_high : packets_in numbers ≤ 1024
