-- Replay over N hyper-periods: in each i from 0 to N − 1 every packet is injected at i × H + its table time, with release
-- and deadline moved by i × H.
use Rattle.std.specs.Prelude.{◌≡◌, Bool, true, ◌⊎◌, List, ℕ, ◌+◌, ◌*◌, ◌-◌, ◌≤◌, ◌<◌, length}
use Rattle.basics.specs.Choose.{both}
use Rattle.routes.specs.Share.{has}
use Rattle.time.specs.Window.{holds}
use Rattle.packet.specs.Packet.{Packet}
use Rattle.packet.specs.Table.{packet_at, time_at}

-- when packet p is injected in hyper-period i
unfoldable pub injection_in : ℕ → List ℕ → ℕ → ℕ → ℕ
injection_in H table i p = i * H + time_at table p

-- when packet p is released in hyper-period i
unfoldable pub release_in : List Packet → ℕ → ℕ → ℕ → ℕ
release_in ps H i p = i * H + (packet_at ps p).release

-- the deadline of packet p in hyper-period i
unfoldable pub deadline_in : List Packet → ℕ → ℕ → ℕ → ℕ
deadline_in ps H i p = i * H + (packet_at ps p).deadline

-- packet p of hyper-period i holds the link in the cycle: injected at s, it holds every link of its path in the cycles s to
-- s + occupancy − 1
unfoldable pub held_by : List Packet → ℕ → List ℕ → ℕ → ℕ → ℕ → ℕ → Bool
held_by ps H table i p link cycle =
    both (has (packet_at ps p).path link) (holds (injection_in H table i p) (packet_at ps p).occupancy cycle)

-- a packet's end is its last held cycle
unfoldable pub end_in : List Packet → ℕ → List ℕ → ℕ → ℕ → ℕ
end_in ps H table i p = injection_in H table i p + (packet_at ps p).occupancy - 1

-- packet p of hyper-period i is replayed over N hyper-periods
pub record Replayed (ps : List Packet) (N i p : ℕ) : Type 0 where
  pub within : i < N
  pub listed : p < length ps

-- packet p of hyper-period i and packet q of hyper-period j, not one and the same, hold the link in the cycle
pub record Clash (ps : List Packet) (H : ℕ) (table : List ℕ) (i p j q link cycle : ℕ) : Type 0 where
  pub one : held_by ps H table i p link cycle ≡ true
  pub other : held_by ps H table j q link cycle ≡ true
  pub different : (i ≡ j) × (p ≡ q) → ⊥

-- packet p of hyper-period i holds the link in the cycle, before its release or at or after its deadline
pub record Stray (ps : List Packet) (H : ℕ) (table : List ℕ) (i p link cycle : ℕ) : Type 0 where
  pub held : held_by ps H table i p link cycle ≡ true
  pub untimely : (cycle < release_in ps H i p) ⊎ (deadline_in ps H i p ≤ cycle)

-- replay over N hyper-periods never shows two packets holding one link in one cycle, nor a packet holding a link before its
-- release or at or after its deadline
pub record Clean (ps : List Packet) (H : ℕ) (table : List ℕ) (N : ℕ) : Type 0 where
  pub no_clash : (i p j q link cycle : ℕ) → Replayed ps N i p → Replayed ps N j q → Clash ps H table i p j q link cycle → ⊥
  pub no_stray : (i p link cycle : ℕ) → Replayed ps N i p → Stray ps H table i p link cycle → ⊥
