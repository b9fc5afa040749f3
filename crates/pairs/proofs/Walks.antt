-- The tests of the walk over pairs, as the code takes them apart: two packets whose windows overlap and whose paths share a link.
use mathlib.Core.Path.{◌≡◌, refl, ap}
use mathlib.Core.Bool.{Bool, true, false}
use mathlib.Core.List.{List}
use Prim.Native.Nat.{ℕ, ◌+◌, ◌≤◌, ◌<◌}
use native.Mathlib.Omega.{arith}
use lib.Dec.{ltb}
use borrow.Author.Tests.{lt-ltb, le-ltb, not-false}
use Rattle.basics.specs.Choose.{both}
use Rattle.basics.proofs.Choose.{both_not}
use Rattle.routes.specs.Share.{shares}
use Rattle.time.specs.Window.{overlaps}
use Rattle.hyperperiod.specs.Hyper.{most}
use Rattle.packet.specs.Packet.{collide}
use Rattle.packet.specs.Table.{time_at}
use Rattle.packet.proofs.Packet.{start_done}
use Rattle.arrays.specs.Arrays.{packet_in}
use Rattle.arrays.specs.declared.build.Flows.{Flows}
use Rattle.arrays.specs.declared.build.Packets.{Packets}
use Rattle.ranges.specs.Ranges.{strays}
use Rattle.pairs.specs.Scan.{meets_in, Timely}

-- a packet whose time is in range is over by 16,777,216
pub over_soon : (flows : Flows) (packets : Packets) (table : List ℕ) → Timely flows packets table → (p : ℕ) → p < packets.count
    → time_at table p + (packet_in flows packets p).occupancy ≤ most
unfolding strays
over_soon flows packets table t p h =
    let ready = t.scan.ready in
    let q = packet_in flows packets p in
    let fits = ready.fits p h in
    let done = start_done q (time_at table p) (omega arith) (not-false _ (t.in_range p h)) in
    omega (arith, ready.soon p h)

-- ---- two packets

module _ (flows : Flows) (packets : Packets) (table : List ℕ) (a : ℕ) where
  -- a packet collides with no packet up to itself
  pub not_lower : (k : ℕ) → k < a + 1 → meets_in flows packets table a k ≡ false
  unfolding meets_in
  not_lower k h =
      ap (λ (t : Bool). both t (collide (packet_in flows packets a) (time_at table a) (packet_in flows packets k) (time_at table k))) (le-ltb a k (omega arith))

  -- packets whose windows do not overlap do not collide
  pub not_overlapping : (b : ℕ) → overlaps (time_at table a) (packet_in flows packets a).occupancy (time_at table b) (packet_in flows packets b).occupancy ≡ false
      → meets_in flows packets table a b ≡ false
  unfolding meets_in collide
  not_overlapping b e =
      both_not (ltb a b) _ (ap (λ (t : Bool). both t (shares (packet_in flows packets a).path (packet_in flows packets b).path)) e)

  -- a higher packet whose window overlaps is met exactly where its path shares a link
  pub overlapping : (b : ℕ) → a < b
      → overlaps (time_at table a) (packet_in flows packets a).occupancy (time_at table b) (packet_in flows packets b).occupancy ≡ true
      → meets_in flows packets table a b ≡ shares (packet_in flows packets a).path (packet_in flows packets b).path
  unfolding meets_in collide
  overlapping b h o = rw (lt-ltb a b h, o) refl
