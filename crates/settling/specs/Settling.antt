-- The fail count of a packet that is turned away, and the state that this leaves; and what a pass begins with.
use Rattle.std.specs.Prelude.{◌≡◌, List, ℕ, ◌+◌, ◌≤◌, ◌<◌, ltb, length, get_or, set, replicate}
use Rattle.basics.specs.Choose.{choose}
use Rattle.packet.specs.Table.{none}
use Rattle.order.specs.Lists.{shifted, Room}
use Rattle.kept.specs.declared.finding.Taken.{Taken}
use Rattle.settling.specs.declared.taking.State.{State}
use Rattle.settling.specs.declared.taking.Turned.{Turned}
use Rattle.settling.specs.declared.taking.Turned.TheVariants.{Again, Skipped}

-- the fail count of packet p once it has risen by one
unfoldable pub raised : List ℕ → ℕ → ℕ
raised fails p = get_or fails p 0 + 1

-- the state once a packet that comes at a place is turned away: it goes to the front, and at the threshold G leaves the list
unfoldable pub turned_away : State → ℕ → ℕ → ℕ → State
turned_away s at packet g = record {
  order = shifted s.order s.base at packet;
  fails = set s.fails packet (raised s.fails packet);
  base = choose (ltb (raised s.fails packet) g) s.base (s.base + 1);
}

-- what follows: a new pass below the threshold; at the threshold it is skipped
unfoldable pub turned : State → ℕ → ℕ → Turned
turned s packet g = choose (ltb (raised s.fails packet) g) Again Skipped

-- what turning a packet away asks: its fail count is at most 16, and it may go to the front
pub record TurnsAway (s : State) (at packet : ℕ) : Type 0 where
  pub long : length s.fails ≡ 1024
  pub within : packet < 1024
  pub low : get_or s.fails packet 0 ≤ 16
  pub room : Room s.order s.base at

-- no packet has a time
unfoldable pub nothing_taken : Taken
nothing_taken = record { times = replicate 1024 none; by = replicate 1024 0; count = 0 }
