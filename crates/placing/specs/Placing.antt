-- Placing one packet: the times that are tried for it, the one that is taken, and how many were tried.
use Rattle.std.specs.Prelude.{Bool, not, List, ℕ, ◌+◌, ◌*◌, ◌-◌, ◌/◌, ltb, length}
use Rattle.basics.specs.Choose.{both, choose}
use Rattle.basics.specs.First.{first, some}
use Rattle.time.specs.Units.{latest_of}
use Rattle.packet.specs.Packet.{Packet, collide}
use Rattle.packet.specs.Table.{packet_at, time_at, placed}
use Rattle.gaps.specs.declared.gap.Placed.{Placed}
use Rattle.gaps.specs.declared.gap.Placed.TheVariants.{At, Nowhere}

-- packet p, injected at s, collides with packet q, which is placed
unfoldable pub in_the_way : List Packet → List ℕ → ℕ → ℕ → ℕ → Bool
in_the_way ps table p s q = both (placed table q) (collide (packet_at ps p) s (packet_at ps q) (time_at table q))

-- packet p, injected at s, collides with nothing placed
unfoldable pub free : List Packet → List ℕ → ℕ → ℕ → Bool
free ps table p s = not (some (in_the_way ps table p s) (length ps))

-- the times release, release + F, release + 2F and so on: time i of a packet
unfoldable pub time_of : ℕ → Packet → ℕ → ℕ
time_of f p i = p.release + i * f

-- how many of them there are up to the latest start
unfoldable pub slots_of : ℕ → Packet → ℕ
slots_of f p = (latest_of p.deadline p.occupancy - p.release) / f + 1

-- the first that collides with nothing placed is taken: which one it is, or how many there are if none will do
unfoldable pub taken_of : List Packet → ℕ → List ℕ → ℕ → ℕ
taken_of ps f table p = first (λ i. free ps table p (time_of f (packet_at ps p) i)) (slots_of f (packet_at ps p))

-- time i, with the times tried up to it, where there is such a time; else nowhere, with all of them tried
unfoldable pub placed_by : ℕ → Packet → ℕ → Placed
placed_by f p i = choose (ltb i (slots_of f p)) (At (time_of f p i) (i + 1)) (Nowhere (slots_of f p))

-- where packet p goes, and how many times are tried for it
unfoldable pub placing_of : List Packet → ℕ → List ℕ → ℕ → Placed
placing_of ps f table p = placed_by f (packet_at ps p) (taken_of ps f table p)
