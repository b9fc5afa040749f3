-- Packets as the code has them in arrays, and where one of them goes.
use Rattle.std.specs.Prelude.{◌≡◌, List, Option, ℕ, ◌+◌, ◌-◌, ◌≤◌, ◌<◌, length, get_or}
use Rattle.hyperperiod.specs.Hyper.{most}
use Rattle.packet.specs.Packet.{Packet}
use Rattle.packet.specs.Table.{packet_at, none}
use Rattle.load.specs.Load.{flow_at, span_of, path_for, Loaded, due_at, release_at}
use Rattle.load.specs.declared.traffic.Traffic.{Traffic}
use Rattle.kept.specs.Kept.{start_of, Kept}
use Rattle.kept.specs.declared.finding.Taken.{Taken}
use Rattle.marks.specs.Marks.{stamped, Honest}
use Rattle.gaps.specs.Gaps.{gap_in}
use Rattle.gaps.specs.declared.gap.Gap.{Gap}
use Rattle.twins.specs.Twins.{Stood}

-- the arrays hold a list of packets: the release of each, and D, the occupancy and the path of its flow
pub record Held (ps : List Packet) (traffic : Traffic) : Type 0 where
  pub few : length ps ≤ 1024
  pub releases : (p : ℕ) → p < length ps → (packet_at ps p).release ≡ release_at traffic p
  pub deadlines : (p : ℕ) → p < length ps → (packet_at ps p).deadline ≡ release_at traffic p + due_at traffic (flow_at traffic p)
  pub spans : (p : ℕ) → p < length ps → (packet_at ps p).occupancy ≡ span_of traffic (flow_at traffic p)
  pub paths : (p : ℕ) → p < length ps → (packet_at ps p).path ≡ path_for traffic (flow_at traffic p)

-- the latest start of packet p: release + D − occupancy
unfoldable pub latest_at : Traffic → ℕ → ℕ
latest_at traffic p = release_at traffic p + due_at traffic (flow_at traffic p) - span_of traffic (flow_at traffic p)

-- where packet p goes among the placed packets
unfoldable pub place_in : Traffic → Taken → ℕ → ℕ → Gap
place_in traffic taken f p = gap_in traffic taken (flow_at traffic p) f (release_at traffic p) (latest_at traffic p)

-- the links of its path marked
abbrev pub stamped_for : Traffic → ℕ → List (Option ℕ) → List (Option ℕ)
stamped_for traffic p marks = stamped (path_for traffic (flow_at traffic p)) (flow_at traffic p) (length (path_for traffic (flow_at traffic p))) marks

-- what finding it asks: a packet that fits in its time, settings in their ranges, no occupancy above the longest, and that the packets
-- placed before it stand where there was no gap before
pub record Placeable (traffic : Traffic) (taken : Taken) (marks : List (Option ℕ)) (f p : ℕ) : Type 0 where
  pub loaded : Loaded traffic
  pub honest : Honest traffic.flows marks
  pub kept : Kept taken
  pub packet : p < 1024
  pub some_step : 0 < f
  pub small_step : f ≤ 65536
  pub lasting : (q : ℕ) → q ≤ p → 0 < span_of traffic (flow_at traffic q)
  pub some_links : 0 < length (path_for traffic (flow_at traffic p))
  pub fits : span_of traffic (flow_at traffic p) ≤ due_at traffic (flow_at traffic p)
  pub ends : release_at traffic p + due_at traffic (flow_at traffic p) ≤ most
  pub longest_of : (g : ℕ) → g < 64 → span_of traffic g ≤ traffic.longest
  pub stood : (q : ℕ) → q < p → (get_or taken.times q 0 ≡ none → ⊥) → Stood traffic taken f q

-- every placed packet before a place is over at a time, even the longest
pub record Over (taken : Taken) (time longest at : ℕ) : Type 0 where
  pub within : at ≤ taken.count
  pub over : (j : ℕ) → j < at → start_of taken j + longest ≤ time
