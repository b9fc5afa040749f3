-- A sound table: every placed packet is in its start range, and no two of them collide.
-- In order: what a taken time is; a sound table; and that one more time leaves it sound.
use mathlib.Core.Path.{◌≡◌, sym, ◌∙◌}
use mathlib.Core.Bool.{true, false, false≢true}
use mathlib.Core.List.{List}
use Prim.Native.Nat.{ℕ, ◌+◌, ◌*◌, ◌≤◌, ◌<◌}
use native.Mathlib.Decide.{ℕ_discrete}
use native.Mathlib.Omega.{arith}
use lib.ListN.{length, set, replicate}
use lib.Seq.{get_or-set_same, get_or-set_other}
use borrow.Author.Tests.{not-true}
use Rattle.basics.proofs.Choose.{not_passing, both_pass}
use Rattle.basics.proofs.First.{first_passes, first_least, none_passes}
use Rattle.time.specs.Units.{latest_of}
use Rattle.packet.specs.Packet.{Packet, may_start, collide}
use Rattle.packet.specs.Table.{packet_at, time_at, none, placed}
use Rattle.packet.proofs.Packet.{start_at, collide_swap}
use Rattle.placing.specs.Placing.{in_the_way, free, time_of, slots_of, taken_of, placing_of}
use Rattle.packet.proofs.Placed.{nothing_placed, placed_other}
use Rattle.gaps.specs.declared.gap.Placed.TheVariants.{At}
use Rattle.passes.proofs.PassSteps.{placing_at, time_latest}

-- ---- the taken time

-- time i of a packet is the first of its times that is free
pub record FirstFree (ps : List Packet) (f : ℕ) (table : List ℕ) (p i t m : ℕ) : Type 0 where
  pub one_of : i < slots_of f (packet_at ps p)
  pub time : t ≡ (packet_at ps p).release + i * f
  pub tried : m ≡ i + 1
  pub clear : free ps table p t ≡ true
  pub first_one : (j : ℕ) → j < i → free ps table p ((packet_at ps p).release + j * f) ≡ false

-- the taken time is the first of the packet's times that is free
pub taken_first : (ps : List Packet) (f : ℕ) (table : List ℕ) (p t m : ℕ) → placing_of ps f table p ≡ At t m
    → FirstFree ps f table p (taken_of ps f table p) t m
unfolding taken_of time_of
taken_first ps f table p t m e =
    let taken = placing_at ps f table p t m e in
    record {
      one_of = taken.one_of;
      time = taken.time;
      tried = taken.tried;
      clear = rw taken.time (first_passes _ (slots_of f (packet_at ps p)) taken.one_of);
      first_one = first_least _ (slots_of f (packet_at ps p));
    }

-- ---- a sound table

-- what placing needs of packets: the occupancy fits between release and deadline
abbrev pub Fitting : List Packet → Type 0
Fitting ps = (p : ℕ) → p < length ps → (packet_at ps p).release + (packet_at ps p).occupancy ≤ (packet_at ps p).deadline

-- every placed packet is in its start range, and no two placed packets collide
pub record Safe (ps : List Packet) (table : List ℕ) : Type 0 where
  pub ranged : (q : ℕ) → q < length ps → placed table q ≡ true → may_start (packet_at ps q) (time_at table q) ≡ true
  pub apart : (a b : ℕ) → a < length ps → b < length ps → (a ≡ b → ⊥) → placed table a ≡ true → placed table b ≡ true
      → collide (packet_at ps a) (time_at table a) (packet_at ps b) (time_at table b) ≡ false

-- where nothing is placed
pub safe_start : (ps : List Packet) (n : ℕ) → Safe ps (replicate n none)
safe_start ps n = record {
  ranged = λ q h e. absurd (false≢true (sym (nothing_placed n q) ∙ e));
  apart = λ a b h k ne e d. absurd (false≢true (sym (nothing_placed n a) ∙ e));
}

-- the time of another packet does not change
pub time_other : (table : List ℕ) (p t q : ℕ) → (q ≡ p → ⊥) → time_at (set table p t) q ≡ time_at table q
unfolding time_at
time_other table p t q ne = get_or-set_other table p q t 0 ne

module _ (ps : List Packet) (f : ℕ) (fitting : Fitting ps) (table : List ℕ) (p t m : ℕ) (e : placing_of ps f table p ≡ At t m)
    (packet : p < length ps) (long : length table ≡ length ps) (safe : Safe ps table) where
  -- the time of the packet
  time_new : time_at (set table p t) p ≡ t
  unfolding time_at
  time_new = get_or-set_same table p t 0 (omega arith)

  -- the packet is in its range
  new_ranged : may_start (packet_at ps p) t ≡ true
  unfolding latest_of time_of
  new_ranged =
      let taken = placing_at ps f table p t m e in
      let late = time_latest f (packet_at ps p) (taken_of ps f table p) taken.one_of (omega (arith, fitting p packet)) in
      start_at (packet_at ps p) t (omega (arith, taken.time)) (omega (arith, taken.time, late, fitting p packet))

  -- it collides with nothing placed
  new_apart : (q : ℕ) → q < length ps → placed table q ≡ true → collide (packet_at ps p) t (packet_at ps q) (time_at table q) ≡ false
  unfolding free in_the_way
  new_apart q h d =
      let clear = not-true _ (taken_first ps f table p t m e).clear in
      let out = none_passes (in_the_way ps table p t) (length ps) clear q h in
      not_passing _ (λ c. false≢true (sym out ∙ both_pass _ _ d c))

  -- so the table with one more time is sound
  pub safe_more : Safe ps (set table p t)
  safe_more = record { ranged = ranges; apart = parts }
    where
      was : (q : ℕ) → (q ≡ p → ⊥) → placed (set table p t) q ≡ true → placed table q ≡ true
      was q ne d = sym (placed_other table p t q ne) ∙ d

      ranges : (q : ℕ) → q < length ps → placed (set table p t) q ≡ true → may_start (packet_at ps q) (time_at (set table p t) q) ≡ true
      ranges q h d =
          elim (ℕ_discrete q p) [
            | yes a ↦ rw (a, time_new) new_ranged
            | no a ↦ rw (time_other table p t q a) (safe.ranged q h (was q a d))
          ]

      parts : (a b : ℕ) → a < length ps → b < length ps → (a ≡ b → ⊥) → placed (set table p t) a ≡ true → placed (set table p t) b ≡ true
          → collide (packet_at ps a) (time_at (set table p t) a) (packet_at ps b) (time_at (set table p t) b) ≡ false
      parts a b h k ne d c =
          elim (ℕ_discrete a p) [
            | yes x ↦
                let y : b ≡ p → ⊥ = λ z. ne (x ∙ sym z) in
                rw (x, time_new, time_other table p t b y) (new_apart b k (was b y c))
            | no x ↦ elim (ℕ_discrete b p) [
              | yes y ↦
                  rw (y, time_new, time_other table p t a x) (collide_swap (packet_at ps a) (time_at table a) (packet_at ps p) t ∙ new_apart a h (was a x d))
              | no y ↦ rw (time_other table p t a x, time_other table p t b y) (safe.apart a b h k ne (was a x d) (was b y c))
            ]
          ]
