-- What the theorems of replay need of a list of packets and a hyper-period. The model's packets have it.
use Rattle.std.specs.Prelude.{◌≡◌, List, ℕ, ◌+◌, ◌*◌, ◌≤◌, ◌<◌, length}
use Rattle.packet.specs.Packet.{Packet}
use Rattle.packet.specs.Table.{packet_at}

-- every packet holds a link for some cycle, fits between its release and its deadline, and lies within one hyper-period
pub record Sound (ps : List Packet) (H : ℕ) : Type 0 where
  -- the occupancy is positive
  pub busy : (p : ℕ) → p < length ps → 0 < (packet_at ps p).occupancy
  -- it fits between release and deadline
  pub fits : (p : ℕ) → p < length ps → (packet_at ps p).release + (packet_at ps p).occupancy ≤ (packet_at ps p).deadline
  -- the deadline is within the hyper-period
  pub within : (p : ℕ) → p < length ps → (packet_at ps p).deadline ≤ H
  -- the path is not empty
  pub routed : (p : ℕ) → p < length ps → 0 < length (packet_at ps p).path

-- packet number p is packet k of flow f
pub record IsPacket (ps : List Packet) (f k p : ℕ) : Type 0 where
  pub listed : p < length ps
  pub flow : (packet_at ps p).flow ≡ f
  pub turn : (packet_at ps p).turn ≡ k

-- the packets are those of a number of flows, each with its period and its number of packets in one hyper-period
pub record Periodic (ps : List Packet) (H flows : ℕ) (period turns : ℕ → ℕ) : Type 0 where
  -- the hyper-period is a whole number of periods
  pub whole : (f : ℕ) → f < flows → H ≡ turns f * period f
  -- a period is positive
  pub lasting : (f : ℕ) → f < flows → 0 < period f
  -- every packet is of one of the flows
  pub flow_below : (p : ℕ) → p < length ps → (packet_at ps p).flow < flows
  -- and one of that flow's packets
  pub turn_below : (p : ℕ) → p < length ps → (packet_at ps p).turn < turns (packet_at ps p).flow
  -- packet k of a flow is released at k × T
  pub released : (p : ℕ) → p < length ps → (packet_at ps p).release ≡ (packet_at ps p).turn * period (packet_at ps p).flow
  -- its deadline is one period later at most
  pub prompt : (p : ℕ) → p < length ps → (packet_at ps p).deadline ≤ (packet_at ps p).release + period (packet_at ps p).flow
  -- packet k of flow f is there
  pub every : (f k : ℕ) → f < flows → k < turns f → (p : ℕ) × IsPacket ps f k p
  -- and is there once
  pub once : (f k p q : ℕ) → IsPacket ps f k p → IsPacket ps f k q → p ≡ q
