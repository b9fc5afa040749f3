-- Packets stand tight: once one is placed where none of its times before was free, placing more does not change that.
use mathlib.Core.Path.{◌≡◌, sym, ◌∙◌, ap}
use mathlib.Core.Bool.{true, false, not, false≢true}
use mathlib.Core.List.{List}
use Prim.Native.Nat.{ℕ, ◌<◌}
use lib.ListN.{length, set}
use lib.Seq.{get_or-set_same}
use borrow.Author.Tests.{not-false}
use Rattle.basics.specs.First.{first, some}
use Rattle.basics.proofs.Choose.{both_pass, both_first, both_second}
use Rattle.basics.proofs.First.{first_passes, some_at, some_first}
use Rattle.packet.specs.Packet.{Packet, collide}
use Rattle.packet.specs.Table.{packet_at, time_at, placed}
use Rattle.packet.proofs.Placed.{placed_other}
use Rattle.placing.specs.Placing.{in_the_way, free, taken_of, placing_of}
use Rattle.gaps.specs.declared.gap.Placed.TheVariants.{At}
use Rattle.passes.specs.Stand.{Tight}
use Rattle.passes.proofs.Sound.{taken_first, time_other}

module _ (ps : List Packet) (f : ℕ) (table : List ℕ) (p t : ℕ) (packet : p < length table) (fresh : placed table p ≡ false) where
  -- what was in the way is in the way still
  ways_more : (q s r : ℕ) → in_the_way ps table q s r ≡ true → in_the_way ps (set table p t) q s r ≡ true
  unfolding in_the_way
  ways_more q s r e =
      let ne : r ≡ p → ⊥ = λ z. false≢true (sym fresh ∙ ap (placed table) (sym z) ∙ both_first _ _ e) in
      both_pass _ _ (placed_other table p t r ne ∙ both_first _ _ e)
      (ap (λ (u : ℕ). collide (packet_at ps q) s (packet_at ps r) u) (time_other table p t r ne) ∙ both_second (placed table r) _ e)

  -- so a time that was not free is not free
  free_less : (q s : ℕ) → free ps table q s ≡ false → free ps (set table p t) q s ≡ false
  unfolding free
  free_less q s e =
      let way = not-false (some (in_the_way ps table q s) (length ps)) e in
      let l = some_first (in_the_way ps table q s) (length ps) way in
      ap not (some_at _ (length ps) (first (in_the_way ps table q s) (length ps)) l (ways_more q s _ (first_passes (in_the_way ps table q s) (length ps) l)))

  -- another stands tight still
  pub tight_other : (q : ℕ) → (q ≡ p → ⊥) → Tight ps f table q → Tight ps f (set table p t) q
  tight_other q ne s = record { i = s.i; grid = time_other table p t q ne ∙ s.grid; taken = λ m h. free_less q _ (s.taken m h) }

  -- and the packet that takes its time does
  pub tight_new : (m : ℕ) → placing_of ps f table p ≡ At t m → Tight ps f (set table p t) p
  unfolding time_at
  tight_new m e =
      let taken = taken_first ps f table p t m e in
      record {
        i = taken_of ps f table p;
        grid = get_or-set_same table p t 0 packet ∙ taken.time;
        taken = λ j h. free_less p _ (taken.first_one j h);
      }
