-- A packet of one hyper-period, when it may start, and when two collide.
use Rattle.std.specs.Prelude.{Bool, List, [], ℕ, leb}
use Rattle.basics.specs.Choose.{both}
use Rattle.routes.specs.Share.{shares}
use Rattle.time.specs.Units.{latest_of}
use Rattle.time.specs.Window.{overlaps}

-- a packet: its flow, which of the flow's packets it is, its release and deadline, its occupancy and the links of its path
pub record Packet : Type 0 where
  pub flow : ℕ
  pub turn : ℕ
  pub release : ℕ
  pub deadline : ℕ
  pub occupancy : ℕ
  pub path : List ℕ

-- what a list of packets reads as past its end
abbrev pub absent : Packet
absent = record { flow = 0; turn = 0; release = 0; deadline = 0; occupancy = 0; path = [] }

-- it may start from its release up to deadline − occupancy, both included
unfoldable pub may_start : Packet → ℕ → Bool
may_start p s = both (leb p.release s) (leb s (latest_of p.deadline p.occupancy))

-- two packets, injected at s and at t, collide if they hold their paths in a common cycle and the paths share a link
unfoldable pub collide : Packet → ℕ → Packet → ℕ → Bool
collide a s b t = both (overlaps s a.occupancy t b.occupancy) (shares a.path b.path)
