-- Laws of replay: a held link, made from a link of the path and a held cycle and taken apart into them; and that a packet's end
-- is its last held cycle.
use mathlib.Core.Path.{◌≡◌}
use mathlib.Core.Bool.{true}
use mathlib.Core.List.{List}
use Prim.Native.Nat.{ℕ, ◌+◌, ◌*◌, ◌≤◌, ◌<◌}
use native.Mathlib.Omega.{arith}
use Rattle.routes.specs.Share.{has}
use Rattle.basics.proofs.Choose.{both_pass, both_first, both_second}
use Rattle.time.proofs.Windows.{holds_at, holds_from, holds_before}
use Rattle.packet.specs.Packet.{Packet}
use Rattle.packet.specs.Table.{packet_at, time_at}
use Rattle.replay.specs.Replay.{injection_in, held_by, end_in}

-- packet p of hyper-period i, a link and a cycle
module _ (ps : List Packet) (H : ℕ) (table : List ℕ) (i p link cycle : ℕ) where
  -- a link of the path is held in a cycle from the injection on, over the occupancy
  pub held_at : has (packet_at ps p).path link ≡ true → i * H + time_at table p ≤ cycle
      → cycle < i * H + time_at table p + (packet_at ps p).occupancy → held_by ps H table i p link cycle ≡ true
  unfolding held_by injection_in
  held_at e h k = both_pass _ _ e (holds_at (i * H + time_at table p) (packet_at ps p).occupancy cycle h k)

  -- a held link is on the path
  pub held_link : held_by ps H table i p link cycle ≡ true → has (packet_at ps p).path link ≡ true
  unfolding held_by
  held_link e = both_first _ _ e

  -- no link is held before the injection
  pub held_from : held_by ps H table i p link cycle ≡ true → i * H + time_at table p ≤ cycle
  unfolding held_by injection_in
  held_from e = holds_from _ (packet_at ps p).occupancy cycle (both_second (has (packet_at ps p).path link) _ e)

  -- a link is held for the occupancy only
  pub held_before : held_by ps H table i p link cycle ≡ true → cycle < i * H + time_at table p + (packet_at ps p).occupancy
  unfolding held_by injection_in
  held_before e = holds_before _ (packet_at ps p).occupancy cycle (both_second (has (packet_at ps p).path link) _ e)

  -- no link is held after the end
  pub end_last : held_by ps H table i p link cycle ≡ true → cycle ≤ end_in ps H table i p
  unfolding end_in injection_in
  end_last e = let h = held_before e in omega arith

-- every link of the path is held at the end
pub end_held : (ps : List Packet) (H : ℕ) (table : List ℕ) (i p link : ℕ) → 0 < (packet_at ps p).occupancy
    → has (packet_at ps p).path link ≡ true → held_by ps H table i p link (end_in ps H table i p) ≡ true
unfolding end_in injection_in
end_held ps H table i p link h e = held_at ps H table i p link _ e (omega arith) (omega arith)
