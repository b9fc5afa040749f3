-- The equations of a pass, one for each thing that may happen to the next packet, and how large placing's numbers are.
use mathlib.Core.Path.{◌≡◌, refl}
use mathlib.Core.Bool.{Bool, true, false}
use mathlib.Core.List.{List, [], ◌∷◌, ◌++◌}
use Prim.Native.Nat.{ℕ, ◌+◌, ◌-◌, ◌*◌, ◌/◌, ◌≤◌, ◌<◌}
use native.Mathlib.Nat.{div-mul-le_self, div-le_self, mul-le-mul_right}
use native.Mathlib.Omega.{arith}
use lib.Dec.{ltb}
use lib.ListN.{set}
use borrow.Author.Tests.{lt-ltb, le-ltb, ltb-true}
use Rattle.time.specs.Units.{latest_of}
use Rattle.packet.specs.Packet.{Packet}
use Rattle.packet.specs.Table.{packet_at}
use Rattle.placing.specs.Placing.{time_of, slots_of, taken_of, placed_by, placing_of}
use Rattle.gaps.specs.declared.gap.Placed.TheVariants.{At, Nowhere}
use Rattle.settling.specs.Settling.{raised}
use Rattle.passes.specs.Pass.{pass_from}

module _ (ps : List Packet) (f g p : ℕ) (rest kept fails table : List ℕ) (tries m : ℕ) where
  -- a packet that is placed stays in the list
  pub pass_placed : (t : ℕ) → placing_of ps f table p ≡ At t m
      → pass_from ps f g (p ∷ rest) kept fails table tries ≡ pass_from ps f g rest (kept ++ (p ∷ [])) fails (set table p t) (tries + m)
  unfolding pass_from
  pass_placed t e = rw (e, pass_from) refl

  -- below G the packet moves to the front, and the pass is broken off
  pub pass_broken : placing_of ps f table p ≡ Nowhere m → raised fails p < g
      → pass_from ps f g (p ∷ rest) kept fails table tries
      ≡ record { whole = false; list = p ∷ (kept ++ rest); fails = set fails p (raised fails p); table = table; tries = tries + m }
  unfolding pass_from
  pass_broken e h = rw (e, pass_from) (rw (lt-ltb (raised fails p) g h) refl)

  -- at G the packet leaves the list, and the pass goes on
  pub pass_skipped : placing_of ps f table p ≡ Nowhere m → g ≤ raised fails p
      → pass_from ps f g (p ∷ rest) kept fails table tries ≡ pass_from ps f g rest kept (set fails p (raised fails p)) table (tries + m)
  unfolding pass_from
  pass_skipped e h = rw (e, pass_from) (rw (le-ltb (raised fails p) g h) refl)

-- ---- placing's numbers

-- a taken time: one of the packet's times, with as many tried as there are up to it
pub record TimeTaken (f : ℕ) (pk : Packet) (i t m : ℕ) : Type 0 where
  pub one_of : i < slots_of f pk
  pub time : t ≡ time_of f pk i
  pub tried : m ≡ i + 1

-- what a taken time is
pub placing_at : (ps : List Packet) (f : ℕ) (table : List ℕ) (p t m : ℕ) → placing_of ps f table p ≡ At t m
    → TimeTaken f (packet_at ps p) (taken_of ps f table p) t m
unfolding placing_of placed_by
placing_at ps f table p t m e = go (ltb (taken_of ps f table p) (slots_of f (packet_at ps p))) refl e
  where
    go : (b : Bool) → ltb (taken_of ps f table p) (slots_of f (packet_at ps p)) ≡ b → placing_of ps f table p ≡ At t m
        → TimeTaken f (packet_at ps p) (taken_of ps f table p) t m
    go true h e =
        let s : placing_of ps f table p ≡ At (time_of f (packet_at ps p) (taken_of ps f table p)) (taken_of ps f table p + 1) = rw (h, placed_by) refl in
        record { one_of = ltb-true _ _ h; time = cc; tried = cc }
    go false h e =
        let s : placing_of ps f table p ≡ Nowhere (slots_of f (packet_at ps p)) = rw (h, placed_by) refl in
        let z : ◌≡◌ {A = ℕ} 0 1 = cc in absurd (omega arith)

-- where none is taken, all were tried
pub placing_nowhere : (ps : List Packet) (f : ℕ) (table : List ℕ) (p m : ℕ) → placing_of ps f table p ≡ Nowhere m → m ≡ slots_of f (packet_at ps p)
unfolding placing_of placed_by
placing_nowhere ps f table p m e = go (ltb (taken_of ps f table p) (slots_of f (packet_at ps p))) refl e
  where
    go : (b : Bool) → ltb (taken_of ps f table p) (slots_of f (packet_at ps p)) ≡ b → placing_of ps f table p ≡ Nowhere m → m ≡ slots_of f (packet_at ps p)
    go true h e =
        let s : placing_of ps f table p ≡ At (time_of f (packet_at ps p) (taken_of ps f table p)) (taken_of ps f table p + 1) = rw (h, placed_by) refl in
        let z : ◌≡◌ {A = ℕ} 0 1 = cc in absurd (omega arith)
    go false h e =
        let s : placing_of ps f table p ≡ Nowhere (slots_of f (packet_at ps p)) = rw (h, placed_by) refl in
        cc

module _ (f : ℕ) (pk : Packet) where
  -- there are no more times than cycles up to the latest start, and one
  pub slots_few : slots_of f pk ≤ latest_of pk.deadline pk.occupancy + 1
  unfolding slots_of
  slots_few = omega (arith, div-le_self (latest_of pk.deadline pk.occupancy - pk.release) f)

  -- each is at the latest start or before it
  pub time_latest : (i : ℕ) → i < slots_of f pk → pk.release ≤ latest_of pk.deadline pk.occupancy
      → time_of f pk i ≤ latest_of pk.deadline pk.occupancy
  unfolding slots_of time_of
  time_latest i h k =
      let d : ℕ = latest_of pk.deadline pk.occupancy - pk.release in
      let l : i * f ≤ d / f * f = mul-le-mul_right f (omega arith) in
      omega (arith, div-mul-le_self d f)
