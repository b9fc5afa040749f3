-- Bytes, flits and cycles, and the two ways from one to the next.
use Rattle.std.specs.Prelude.{ℕ, ◌+◌, ◌*◌, ◌-◌, ◌/◌}
use Rattle.time.specs.declared.units.Bytes.{Bytes}
use Rattle.time.specs.declared.units.Flits.{Flits}
use Rattle.time.specs.declared.units.Cycles.{Cycles}

-- bytes become flits only through the flit width: the size divided by it, the whole part
unfoldable pub flits_of : Bytes → Bytes → Flits
flits_of size width = record { 0 = size.0 / width.0 }

-- flits become cycles only through the occupancy: r × (m + 1) + flits + 1
unfoldable pub occupancy_of : Cycles → ℕ → Flits → Cycles
occupancy_of r m payload = record { 0 = r.0 * (m + 1) + payload.0 + 1 }

-- flow f has H div T packets
unfoldable pub turns_of : ℕ → ℕ → ℕ
turns_of hyper period = hyper / period

-- a packet may start up to deadline − occupancy
unfoldable pub latest_of : ℕ → ℕ → ℕ
latest_of deadline occupancy = deadline - occupancy
