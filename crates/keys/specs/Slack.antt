-- The slack of a packet, and the slacks of a model's flows as the search's code holds them.
use Rattle.std.specs.Prelude.{List, ℕ, ◌-◌, ◌≤◌, ◌<◌}
use Rattle.basics.specs.Lists.{tabulate, padded}
use Rattle.packet.specs.Packet.{Packet}
use Rattle.packet.specs.Table.{packet_at}
use Rattle.load.specs.Entries.{nth_flow}
use Rattle.load.specs.declared.entries.FlowEntry.{FlowEntry}
use Rattle.arrays.specs.declared.build.Model.{Model}

-- slack: D − occupancy, where D is the deadline from the release on
unfoldable pub slack_of : Packet → ℕ
slack_of p = p.deadline - p.release - p.occupancy

-- the slack of packet number p
unfoldable pub slack_at : List Packet → ℕ → ℕ
slack_at ps p = slack_of (packet_at ps p)

-- D − occupancy of flow g, read off the array
unfoldable pub slack_in : List FlowEntry → ℕ → ℕ
slack_in flows g = (nth_flow flows g).due - (nth_flow flows g).occupancy

-- what the slacks ask: flows whose occupancy is at most D
pub record Keyed (model : Model) : Type 0 where
  pub few : model.flows.count ≤ 64
  pub fits : (g : ℕ) → g < model.flows.count → (nth_flow model.flows.all g).occupancy ≤ (nth_flow model.flows.all g).due

-- the slacks of all flows, 0 past them
unfoldable pub slacks_of : Model → List ℕ
slacks_of model = padded 64 0 (tabulate (slack_in model.flows.all) 0 model.flows.count)
