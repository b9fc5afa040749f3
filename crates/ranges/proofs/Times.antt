-- The tests of the walk, as the code takes them apart: a time before the release, and one after the latest start.
use mathlib.Core.Path.{◌≡◌, sym, ◌∙◌, ap}
use mathlib.Core.Bool.{Bool, true, not}
use Prim.Native.Nat.{ℕ, ◌≤◌, ◌<◌}
use lib.Dec.{leb, ltb}
use native.Mathlib.Nat.{lt_of_not-le}
use native.Mathlib.Decide.{dec_le}
use borrow.Author.Tests.{le-leb, lt-leb, lt-ltb, le-ltb}
use Rattle.basics.specs.Choose.{both}
use Rattle.basics.proofs.Choose.{both_pass, both_not}
use Rattle.time.specs.Units.{latest_of}
use Rattle.packet.specs.Packet.{Packet, may_start}

-- a time before the release is outside
pub early : (q : Packet) (s : ℕ) → s < q.release → not (may_start q s) ≡ true
unfolding may_start
early q s h = ap (λ (t : Bool). not (both t (leb s (latest_of q.deadline q.occupancy)))) (lt-leb q.release s h)

-- a time from the release on is outside exactly where it is after the latest start
pub by_latest : (q : Packet) (s : ℕ) → q.release ≤ s → not (may_start q s) ≡ ltb (latest_of q.deadline q.occupancy) s
unfolding may_start
by_latest q s h =
    elim (dec_le s (latest_of q.deadline q.occupancy)) [
      | yes k ↦ ap not (both_pass _ _ (le-leb q.release s h) (le-leb s (latest_of q.deadline q.occupancy) k)) ∙ sym (le-ltb (latest_of q.deadline q.occupancy) s k)
      | no k ↦ ap not (both_not (leb q.release s) _ (lt-leb s (latest_of q.deadline q.occupancy) (lt_of_not-le k))) ∙ sym (lt-ltb (latest_of q.deadline q.occupancy) s (lt_of_not-le k))
    ]
