-- Laws of one packet and of two: the start range and the collision, each made from numbers and taken apart into them.
-- In order: when a packet may start, and which side of its range a time lies on where it may not; then what a collision is
-- made of; then that colliding is the same from either side.
-- Where a law of the range needs it, the occupancy is at most the deadline: the range's end is a truncated minus.
use mathlib.Core.Path.{◌≡◌, refl, sym, ◌∙◌, ap}
use mathlib.Core.Bool.{Bool, true, false, false≢true}
use mathlib.Core.Logic.{◌⊎◌, inl, inr}
use Prim.Native.Nat.{ℕ, ◌+◌, ◌-◌, ◌≤◌, ◌<◌}
use native.Mathlib.Omega.{arith}
use lib.Dec.{leb}
use borrow.Author.Tests.{leb-true, leb-false, le-leb}
use Rattle.basics.specs.Choose.{both}
use Rattle.basics.proofs.Choose.{both_pass, both_first, both_second}
use Rattle.routes.specs.Share.{shares}
use Rattle.routes.proofs.Common.{shares_swap}
use Rattle.time.specs.Units.{latest_of}
use Rattle.time.specs.Window.{overlaps}
use Rattle.time.proofs.Windows.{overlaps_swap}
use Rattle.packet.specs.Packet.{Packet, may_start, collide}

-- ---- `may_start`

-- a time from the release on, with the occupancy done by the deadline, is in the range
pub start_at : (p : Packet) (s : ℕ) → p.release ≤ s → s + p.occupancy ≤ p.deadline → may_start p s ≡ true
unfolding may_start latest_of
start_at p s h k = both_pass _ _ (le-leb p.release s h) (le-leb s (p.deadline - p.occupancy) (omega arith))

-- a time in the range is at the release or after it
pub start_from : (p : Packet) (s : ℕ) → may_start p s ≡ true → p.release ≤ s
unfolding may_start
start_from p s e = leb-true p.release s (both_first _ _ e)

-- a time in the range has the occupancy done by the deadline
pub start_done : (p : Packet) (s : ℕ) → p.occupancy ≤ p.deadline → may_start p s ≡ true → s + p.occupancy ≤ p.deadline
unfolding may_start latest_of
start_done p s h e =
    let k = leb-true s (p.deadline - p.occupancy) (both_second (leb p.release s) _ e) in
    omega arith

-- a time outside the range is before the release, or leaves the occupancy undone at the deadline
pub start_not : (p : Packet) (s : ℕ) → may_start p s ≡ false → (s < p.release) ⊎ (p.deadline < s + p.occupancy)
unfolding may_start latest_of
start_not p s e = go (leb p.release s) refl (leb s (p.deadline - p.occupancy)) refl e
  where
    go : (a : Bool) → leb p.release s ≡ a → (b : Bool) → leb s (p.deadline - p.occupancy) ≡ b → both a b ≡ false
        → (s < p.release) ⊎ (p.deadline < s + p.occupancy)
    go false l b m n = inl (leb-false p.release s l)
    go true l false m n = let k = leb-false s (p.deadline - p.occupancy) m in inr (omega arith)
    go true l true m n = absurd (false≢true (sym n))

-- ---- `collide`

-- packets that overlap and share a link collide
pub collide_at : (a : Packet) (s : ℕ) (b : Packet) (t : ℕ) → overlaps s a.occupancy t b.occupancy ≡ true
    → shares a.path b.path ≡ true → collide a s b t ≡ true
unfolding collide
collide_at a s b t o l = both_pass _ _ o l

-- packets that collide overlap
pub collide_overlaps : (a : Packet) (s : ℕ) (b : Packet) (t : ℕ) → collide a s b t ≡ true
    → overlaps s a.occupancy t b.occupancy ≡ true
unfolding collide
collide_overlaps a s b t e = both_first _ _ e

-- packets that collide share a link
pub collide_shares : (a : Packet) (s : ℕ) (b : Packet) (t : ℕ) → collide a s b t ≡ true → shares a.path b.path ≡ true
unfolding collide
collide_shares a s b t e = both_second (overlaps s a.occupancy t b.occupancy) _ e

-- collision is symmetric
pub collide_swap : (a : Packet) (s : ℕ) (b : Packet) (t : ℕ) → collide a s b t ≡ collide b t a s
unfolding collide
collide_swap a s b t =
    ap (λ (o : Bool). both o (shares a.path b.path)) (overlaps_swap s a.occupancy t b.occupancy)
    ∙ ap (both (overlaps t b.occupancy s a.occupancy)) (shares_swap a.path b.path)

-- two packets that agree in every part are the same
pub packet_same : (a b : Packet) → a.flow ≡ b.flow → a.turn ≡ b.turn → a.release ≡ b.release → a.deadline ≡ b.deadline
    → a.occupancy ≡ b.occupancy → a.path ≡ b.path → a ≡ b
packet_same a b f t r d o p = λ (i : 𝕀). record { flow = f i; turn = t i; release = r i; deadline = d i; occupancy = o i; path = p i }
