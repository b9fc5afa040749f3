-- What a flow's receiver sees in replay: period k of a flow, for k from 0 to N × H div T − 1, is the cycles k × T to
-- (k + 1) × T − 1, and its packet is the one released at its first cycle.
use Rattle.std.specs.Prelude.{◌≡◌, Bool, true, List, ℕ, ◌*◌, ◌/◌}
use Rattle.time.specs.Window.{holds}
use Rattle.packet.specs.Packet.{Packet}
use Rattle.packet.specs.Table.{packet_at}
use Rattle.replay.specs.Replay.{release_in, end_in, Replayed}

-- how many periods of length T there are over N hyper-periods: N × H div T
unfoldable pub periods_over : ℕ → ℕ → ℕ → ℕ
periods_over N H T = N * H / T

-- the cycle is in period k: the window from k × T on, T cycles long
unfoldable pub in_period : ℕ → ℕ → ℕ → Bool
in_period T k cycle = holds (k * T) T cycle

-- packet p of hyper-period i is a packet of flow f in the replay over N hyper-periods
pub record OfFlow (ps : List Packet) (N f i p : ℕ) : Type 0 where
  pub replayed : Replayed ps N i p
  pub flow : (packet_at ps p).flow ≡ f

-- packet p of hyper-period i is the packet of period k of flow f, whose period is T: the one released at its first cycle
pub record PacketOf (ps : List Packet) (H N f T k i p : ℕ) : Type 0 where
  pub own : OfFlow ps N f i p
  pub first_cycle : release_in ps H i p ≡ k * T

-- the receiver of flow f sees in period k the end of packet p of hyper-period i
pub record SeesEnd (ps : List Packet) (H : ℕ) (table : List ℕ) (N f T k i p : ℕ) : Type 0 where
  pub own : OfFlow ps N f i p
  pub seen : in_period T k (end_in ps H table i p) ≡ true

-- the receiver of flow f sees in period k the end of that period's packet and of no other packet of the flow
pub record SeesOwn (ps : List Packet) (H : ℕ) (table : List ℕ) (N f T k : ℕ) : Type 0 where
  -- that period's packet: its hyper-period and its number
  pub hyper : ℕ
  pub packet : ℕ
  pub its : PacketOf ps H N f T k hyper packet
  pub sees : SeesEnd ps H table N f T k hyper packet
  pub no_other : (j q : ℕ) → SeesEnd ps H table N f T k j q → (j ≡ hyper) × (q ≡ packet)
