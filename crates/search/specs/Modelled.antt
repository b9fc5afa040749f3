-- What the search asks of a model.
use Rattle.std.specs.Prelude.{◌≡◌, ℕ, ◌+◌, ◌≤◌, ◌<◌, length, get_or}
use Rattle.mesh.specs.Link.{all_links}
use Rattle.hyperperiod.specs.Hyper.{most}
use Rattle.order.specs.Grouped.{Grouped}
use Rattle.load.specs.Entries.{nth_flow, nth_packet}
use Rattle.arrays.specs.Arrays.{flow_numbers, packet_in}
use Rattle.arrays.specs.declared.build.Model.{Model}
use Rattle.keys.specs.Slack.{Keyed}

-- what the search asks of a model: packets in time, flow after flow, paths of links, and settings in their ranges
pub record Modelled (model : Model) (f g : ℕ) : Type 0 where
  pub busy : (p : ℕ) → p < model.packets.count → 0 < (packet_in model.flows model.packets p).occupancy
  pub fits : (p : ℕ) → p < model.packets.count
      → (packet_in model.flows model.packets p).release + (packet_in model.flows model.packets p).occupancy ≤ (packet_in model.flows model.packets p).deadline
  pub ends : (p : ℕ) → p < model.packets.count → (packet_in model.flows model.packets p).deadline ≤ most
  pub routed : (p : ℕ) → p < model.packets.count → 0 < (nth_flow model.flows.all (nth_packet model.packets.all p).flow).path.len
  pub keyed : Keyed model
  pub grouped : Grouped (flow_numbers model.packets.all) model.flows.count model.packets.count
  pub flows : (q : ℕ) → q < 1024 → (nth_packet model.packets.all q).flow < 64
  pub spans : (q : ℕ) → q < 64 → (nth_flow model.flows.all q).occupancy ≤ most
  pub whole : (q : ℕ) → q < 64 → length (nth_flow model.flows.all q).path.links ≡ 32
  pub short : (q : ℕ) → q < 64 → (nth_flow model.flows.all q).path.len ≤ 32
  pub numbers : (q : ℕ) → q < 64 → (a : ℕ) → a < 32 → get_or (nth_flow model.flows.all q).path.links a 0 < all_links
  pub some_step : 0 < f
  pub small_step : f ≤ 65536
  pub low : 0 < g
  pub high : g ≤ 16
