-- The packets of a model as the printer wants them: an answer with the flow and k of each packet.
use Rattle.std.specs.Prelude.{List, [], map, ℕ, ◌<◌, is_ok}
use Rattle.basics.specs.Choose.{choose}
use Rattle.basics.specs.Lists.{padded}
use Rattle.packet.specs.Packet.{Packet}
use Rattle.model.specs.Packets.{packets_of}
use Rattle.refusals.specs.Refusals.{accepted, refusal_of}
use Rattle.load.specs.Entries.{nth_flow, nth_packet}
use Rattle.arrays.specs.Arrays.{packet_in, InBounds}
use Rattle.model.specs.declared.answers.Answer.{Answer}
use Rattle.arrays.specs.declared.build.Flows.{Flows}
use Rattle.arrays.specs.declared.build.Packets.{Packets}
use Rattle.model.specs.declared.flows.Mesh.{Mesh}
use Rattle.planner.specs.declared.numbering.Plan.{Plan}

-- the packets of a model that is not refused, else none
unfoldable pub packets_for : Mesh → List ℕ → List Packet
packets_for mesh numbers = choose (is_ok (refusal_of mesh accepted numbers)) (packets_of mesh numbers) []

-- one number of each packet, in an array of 1,024
unfoldable pub array_of : (Packet → ℕ) → List Packet → List ℕ
array_of of ps = padded 1024 0 (map of ps)

-- the answer, and the flow and k of each packet
unfoldable pub plan_for : Answer → List Packet → Plan
plan_for answer ps = record { answer = answer; flow = array_of (λ (p : Packet). p.flow) ps; turn = array_of (λ (p : Packet). p.turn) ps }

-- what reading the turns off the arrays asks
pub record Turned (flows : Flows) (packets : Packets) : Type 0 where
  pub ready : InBounds flows packets
  pub lasting : (p : ℕ) → p < packets.count → 0 < (nth_flow flows.all (nth_packet packets.all p).flow).period
  pub few : (p : ℕ) → p < packets.count → (packet_in flows packets p).turn < 65536
