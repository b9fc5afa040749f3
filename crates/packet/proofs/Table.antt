-- Laws of the table: number 11, number 12 and `passes`, each made and taken apart.
-- In order: `outside`; `meets`; `meets_higher`; then what a passed table gives, what makes a table pass, and, at the end, what a
-- table that does not pass has: a lowest packet outside its range, or else a lowest meeting pair.
use mathlib.Core.Path.{◌≡◌, refl, sym, ◌∙◌, ap}
use mathlib.Core.Bool.{Bool, true, false, not, false≢true}
use mathlib.Core.Logic.{◌⊎◌, inl, inr}
use mathlib.Core.List.{List}
use Prim.Native.Nat.{ℕ, ◌+◌, ◌≤◌, ◌<◌}
use native.Mathlib.Nat.{lt_of_not-le}
use native.Mathlib.Decide.{dec_le}
use native.Mathlib.Omega.{arith}
use lib.Dec.{ltb}
use lib.ListN.{length}
use borrow.Author.Tests.{ltb-true, lt-ltb, not-true, not-false}
use Rattle.basics.specs.Choose.{both}
use Rattle.basics.specs.First.{first, some}
use Rattle.basics.proofs.First.{first_passes, first_least, some_none, some_first, none_passes}
use Rattle.basics.proofs.Choose.{both_pass, both_first, both_second}
use Rattle.packet.specs.Packet.{Packet, may_start, collide}
use Rattle.packet.specs.Table.{packet_at, time_at, outside, meets, meets_higher, passes}
use Rattle.packet.proofs.Packet.{start_from, start_done, collide_swap}

-- over any list of packets, and any table
module _ (ps : List Packet) (table : List ℕ) where
  -- ---- 11: `outside`

  -- a packet that is outside may not start at its time
  pub outside_start : (p : ℕ) → outside ps table p ≡ true → may_start (packet_at ps p) (time_at table p) ≡ false
  unfolding outside
  outside_start p e = not-true _ e

  -- a packet that is not outside may start at its time
  pub inside_start : (p : ℕ) → outside ps table p ≡ false → may_start (packet_at ps p) (time_at table p) ≡ true
  unfolding outside
  inside_start p e = not-false _ e

  -- a packet that may start at its time is not outside
  pub start_inside : (p : ℕ) → may_start (packet_at ps p) (time_at table p) ≡ true → outside ps table p ≡ false
  unfolding outside
  start_inside p e = ap not e

  -- ---- 12: `meets` and `meets_higher`

  -- a packet meets a higher-numbered one that it collides with
  pub meets_at : (a b : ℕ) → a < b → collide (packet_at ps a) (time_at table a) (packet_at ps b) (time_at table b) ≡ true
      → meets ps table a b ≡ true
  unfolding meets
  meets_at a b h e = both_pass _ _ (lt-ltb a b h) e

  -- a packet meets only higher-numbered ones
  pub meets_higher_lem : (a b : ℕ) → meets ps table a b ≡ true → a < b
  unfolding meets
  meets_higher_lem a b e = ltb-true a b (both_first _ _ e)

  -- packets that meet collide
  pub meets_collide : (a b : ℕ) → meets ps table a b ≡ true
      → collide (packet_at ps a) (time_at table a) (packet_at ps b) (time_at table b) ≡ true
  unfolding meets
  meets_collide a b e = both_second (ltb a b) _ e

  -- a packet that meets no listed one meets no higher one
  pub higher_none : (a : ℕ) → ((b : ℕ) → b < length ps → meets ps table a b ≡ false) → meets_higher ps table a ≡ false
  unfolding meets_higher
  higher_none a none = some_none (meets ps table a) (length ps) none

  -- a packet that meets no higher one meets no listed one
  pub higher_not : (a : ℕ) → meets_higher ps table a ≡ false → (b : ℕ) → b < length ps → meets ps table a b ≡ false
  unfolding meets_higher
  higher_not a e = none_passes (meets ps table a) (length ps) e

  -- ---- `passes`

  -- in a passed table every packet may start at its time
  passes_start : passes ps table ≡ true → (p : ℕ) → p < length ps → may_start (packet_at ps p) (time_at table p) ≡ true
  unfolding passes
  passes_start e p h =
      inside_start p (none_passes (outside ps table) (length ps) (not-true _ (both_first _ _ e)) p h)

  -- in a passed table every time is at its packet's release or after it
  pub passes_from_lem : passes ps table ≡ true → (p : ℕ) → p < length ps → (packet_at ps p).release ≤ time_at table p
  passes_from_lem e p h = start_from (packet_at ps p) (time_at table p) (passes_start e p h)

  -- in a passed table every packet is done by its deadline
  pub passes_done : passes ps table ≡ true → (p : ℕ) → p < length ps → (packet_at ps p).occupancy ≤ (packet_at ps p).deadline
      → time_at table p + (packet_at ps p).occupancy ≤ (packet_at ps p).deadline
  passes_done e p h k = start_done (packet_at ps p) (time_at table p) k (passes_start e p h)

  -- in a passed table no packet collides with a higher-numbered one
  passes_below : passes ps table ≡ true → (a b : ℕ) → a < b → b < length ps
      → collide (packet_at ps a) (time_at table a) (packet_at ps b) (time_at table b) ≡ false
  unfolding passes
  passes_below e a b l h = go (collide (packet_at ps a) (time_at table a) (packet_at ps b) (time_at table b)) refl
    where
      none : meets ps table a b ≡ false
      none =
          let clear = not-true _ (both_second (not (some (outside ps table) (length ps))) _ e) in
          higher_not a (none_passes (meets_higher ps table) (length ps) clear a (omega arith)) b h

      go : (t : Bool) → collide (packet_at ps a) (time_at table a) (packet_at ps b) (time_at table b) ≡ t
          → collide (packet_at ps a) (time_at table a) (packet_at ps b) (time_at table b) ≡ false
      go true c = absurd (false≢true (sym none ∙ meets_at a b l c))
      go false c = c

  -- in a passed table no two packets collide, in either order
  pub passes_apart : passes ps table ≡ true → (a b : ℕ) → a < length ps → b < length ps → (a ≡ b → ⊥)
      → collide (packet_at ps a) (time_at table a) (packet_at ps b) (time_at table b) ≡ false
  passes_apart e a b h k ne =
      elim (dec_le b a) [
        | no l ↦ passes_below e a b (lt_of_not-le l) k
        | yes l ↦
            collide_swap (packet_at ps a) (time_at table a) (packet_at ps b) (time_at table b) ∙ passes_below e b a (omega arith) h
      ]

  -- a table passes where no packet is outside its range and none meets another
  pub passes_all : ((p : ℕ) → p < length ps → outside ps table p ≡ false)
      → ((a b : ℕ) → a < length ps → b < length ps → meets ps table a b ≡ false) → passes ps table ≡ true
  unfolding passes
  passes_all starts apart =
      both_pass _ _ (ap not (some_none (outside ps table) (length ps) starts))
      (ap not (some_none (meets_higher ps table) (length ps) (λ a h. higher_none a (λ b k. apart a b h k))))

-- packet p is the lowest outside its range
pub record FirstOutside (ps : List Packet) (table : List ℕ) (p : ℕ) : Type 0 where
  pub listed : p < length ps
  pub strays : outside ps table p ≡ true
  pub lowest : (q : ℕ) → q < p → outside ps table q ≡ false

-- every time is in its range, packet a is the lowest that meets a higher one, and b is the lowest that it meets
pub record FirstMeeting (ps : List Packet) (table : List ℕ) (a b : ℕ) : Type 0 where
  pub inside : (q : ℕ) → q < length ps → outside ps table q ≡ false
  pub listed : b < length ps
  pub meeting : meets ps table a b ≡ true
  pub lowest : (c : ℕ) → c < a → meets_higher ps table c ≡ false
  pub lowest_other : (c : ℕ) → c < b → meets ps table a c ≡ false

-- a table that does not pass has a lowest packet outside its range, or else a lowest meeting pair
pub passes_not : (ps : List Packet) (table : List ℕ) → passes ps table ≡ false
    → FirstOutside ps table (first (outside ps table) (length ps))
    ⊎ FirstMeeting ps table (first (meets_higher ps table) (length ps))
    (first (meets ps table (first (meets_higher ps table) (length ps))) (length ps))
unfolding passes meets_higher
passes_not ps table e =
    go (some (outside ps table) (length ps)) refl (some (meets_higher ps table) (length ps)) refl e
  where
    n : ℕ
    n = length ps

    a : ℕ
    a = first (meets_higher ps table) (length ps)

    b : ℕ
    b = first (meets ps table a) (length ps)

    go : (o : Bool) → some (outside ps table) n ≡ o → (m : Bool) → some (meets_higher ps table) n ≡ m → both (not o) (not m) ≡ false
        → FirstOutside ps table (first (outside ps table) n) ⊎ FirstMeeting ps table a b
    go true o m q r =
        let l = some_first (outside ps table) n o in
        inl record {
          listed = l;
          strays = first_passes (outside ps table) n l;
          lowest = first_least (outside ps table) n;
        }
    go false o true q r =
        let l = some_first (meets ps table a) n (first_passes (meets_higher ps table) n (some_first (meets_higher ps table) n q)) in
        inr record {
          inside = none_passes (outside ps table) n o;
          listed = l;
          meeting = first_passes (meets ps table a) n l;
          lowest = first_least (meets_higher ps table) n;
          lowest_other = first_least (meets ps table a) n;
        }
    go false o false q r = absurd (false≢true (sym r))
