-- What packets hold, as the code has it in arrays: the flow of each packet, the occupancy and the path of each flow.
use Rattle.std.specs.Prelude.{◌≡◌, List, ℕ, ◌≤◌, ◌<◌, length, get_or}
use Rattle.mesh.specs.Link.{all_links}
use Rattle.routes.specs.Route.{links_of}
use Rattle.hyperperiod.specs.Hyper.{most}
use Rattle.load.specs.Entries.{nth_flow, nth_packet}
use Rattle.load.specs.declared.entries.FlowEntry.{FlowEntry}
use Rattle.load.specs.declared.traffic.Traffic.{Traffic}

-- the flow of packet p
unfoldable pub flow_at : Traffic → ℕ → ℕ
flow_at traffic p = (nth_packet traffic.packets p).flow

-- the release of packet p
abbrev pub release_at : Traffic → ℕ → ℕ
release_at traffic p = (nth_packet traffic.packets p).release

-- the occupancy of flow g
unfoldable pub span_of : Traffic → ℕ → ℕ
span_of traffic g = (nth_flow traffic.flows g).occupancy

-- D of flow g
abbrev pub due_at : Traffic → ℕ → ℕ
due_at traffic g = (nth_flow traffic.flows g).due

-- the links of flow g's path
unfoldable pub path_in : List FlowEntry → ℕ → List ℕ
path_in flows g = links_of (nth_flow flows g).path

-- the same, of what packets hold
abbrev pub path_for : Traffic → ℕ → List ℕ
path_for traffic g = path_in traffic.flows g

-- the paths of 64 flows, none longer than 32 links
pub record Paths (flows : List FlowEntry) : Type 0 where
  pub whole : (g : ℕ) → g < 64 → length (nth_flow flows g).path.links ≡ 32
  pub short : (g : ℕ) → g < 64 → (nth_flow flows g).path.len ≤ 32
  pub numbers : (g : ℕ) → g < 64 → (a : ℕ) → a < 32 → get_or (nth_flow flows g).path.links a 0 < all_links

-- flows are below 64, their occupancies within the longest hyper-period
pub record Loaded (traffic : Traffic) : Type 0 where
  pub flows : (q : ℕ) → q < 1024 → flow_at traffic q < 64
  pub spans : (g : ℕ) → g < 64 → span_of traffic g ≤ most
  pub paths : Paths traffic.flows
