-- The lowest pair that collides, as the walk over the packets finds it.
use Rattle.std.proofs.Common.{Option, Some, None}
use mathlib.Core.Path.{◌≡◌, refl, sym, ◌∙◌, ap}
use mathlib.Core.Bool.{false}
use mathlib.Core.List.{List}
use Prim.Native.Nat.{ℕ, ◌<◌}
use native.Mathlib.Omega.{arith}
use borrow.Author.Tests.{lt-ltb}
use Rattle.std.specs.Option.{option_map}
use Rattle.basics.specs.First.{first, some, found}
use Rattle.basics.proofs.First.{some_none, some_first, first_passes, found_is, found_none, found_first, found_not}
use Rattle.arrays.specs.declared.build.Flows.{Flows}
use Rattle.arrays.specs.declared.build.Packets.{Packets}
use Rattle.pairs.specs.Scan.{meets_in, higher_in, first_pair}
use Rattle.pairs.specs.declared.scan.Pair.{Pair}

module _ (flows : Flows) (packets : Packets) (table : List ℕ) where
  -- a packet without a partner meets no higher one
  pub none_higher : (a : ℕ) → found (meets_in flows packets table a) packets.count ≡ None → higher_in flows packets table a ≡ false
  unfolding higher_in
  none_higher a e = some_none (meets_in flows packets table a) packets.count (found_not (meets_in flows packets table a) packets.count e)

  -- the first packet with a partner, and its lowest partner
  pub pair_found : (a b : ℕ) → a < packets.count → found (meets_in flows packets table a) packets.count ≡ Some b
      → ((k : ℕ) → k < a → higher_in flows packets table k ≡ false) → first_pair flows packets table ≡ Some (record { a = a; b = b })
  unfolding higher_in some first_pair
  pair_found a b h e none =
      let own = found_first (meets_in flows packets table a) packets.count b e in
      let met = lt-ltb (first (meets_in flows packets table a) packets.count) packets.count (omega (arith, own.0, own.1)) in
      let pair : ℕ → ℕ → Pair = λ x y. record { a = x; b = y } in
      ap (option_map (λ x. record { a = x; b = first (meets_in flows packets table x) packets.count })) (found_is (higher_in flows packets table) packets.count a h met none)
      ∙ ap (λ (y : ℕ). Some (pair a y)) own.1

  -- no packet has a partner
  pub pair_none : ((k : ℕ) → k < packets.count → higher_in flows packets table k ≡ false) → first_pair flows packets table ≡ None
  unfolding first_pair
  pair_none none = rw (found_none (higher_in flows packets table) packets.count none) refl

  -- a pair that is given is the first packet with a partner and its lowest partner, both of them packets
  pub pair_is : (p : Pair) → first_pair flows packets table ≡ Some p
      → (p.a < packets.count) × (p.b < packets.count) × (first (higher_in flows packets table) packets.count ≡ p.a) × (first (meets_in flows packets table p.a) packets.count ≡ p.b)
  unfolding first_pair higher_in
  pair_is p e = go (found (higher_in flows packets table) packets.count) refl e
    where
      go : (o : Option ℕ) → found (higher_in flows packets table) packets.count ≡ o
          → option_map (λ x. record { a = x; b = first (meets_in flows packets table x) packets.count }) o ≡ Some p
          → (p.a < packets.count) × (p.b < packets.count) × (first (higher_in flows packets table) packets.count ≡ p.a) × (first (meets_in flows packets table p.a) packets.count ≡ p.b)
      go None f g = let z : ◌≡◌ {A = ℕ} 0 1 = cc in absurd (omega arith)
      go (Some a) f g =
          let own = found_first (higher_in flows packets table) packets.count a f in
          let same : record { a = a; b = first (meets_in flows packets table a) packets.count } ≡ p = cc in
          let met = some_first (meets_in flows packets table a) packets.count (ap (higher_in flows packets table) (sym own.1) ∙ first_passes (higher_in flows packets table) packets.count (omega (arith, own.0, own.1))) in
          rw (← same) (own.0, met, own.1, refl)
