-- A list in order of a key holds packets, each at most once.
use mathlib.Core.Path.{◌≡◌, sym, ◌∙◌, ap}
use mathlib.Core.List.{List}
use Prim.Native.Nat.{ℕ, ◌+◌, ◌<◌}
use native.Mathlib.Nat.{lt_of_not-le}
use native.Mathlib.Decide.{dec_le}
use native.Mathlib.Omega.{arith}
use lib.ListN.{length, get_or, take}
use lib.Seq.{get_or-take}
use Rattle.basics.proofs.Each.{each_at}
use Rattle.order.specs.Order.{sorted, occurs}
use Rattle.order.proofs.Ordering.{sorted_once, sorted_none, sorted_length, sorted_below}
use Rattle.passes.specs.Search.{Enlisted}

pub listing_sorted : (key : ℕ → ℕ) (list : List ℕ) (n : ℕ) → length list ≡ 1024 → take n list ≡ sorted key 0 n → Enlisted list n
listing_sorted key list n long e = record {
  long = long;
  numbers = λ j h.
      let at : get_or list j 0 ≡ get_or (sorted key 0 n) j 0 = sym (get_or-take n list j 0 h) ∙ ap (λ (xs : List ℕ). get_or xs j 0) e in
      let l = each_at (λ (q : ℕ). q < 0 + n) (sorted key 0 n) (sorted_below key 0 n) j (omega (arith, sorted_length key 0 n)) in
      omega (arith, at);
  once = λ q.
      elim (dec_le n q) [
        | yes a ↦ omega (arith, ap (occurs q) e, sorted_none key n q a)
        | no a ↦ omega (arith, ap (occurs q) e, sorted_once key n q (lt_of_not-le a))
      ];
}
