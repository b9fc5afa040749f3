-- Parts of a list of packet numbers: what is taken, what is still to be taken, and both after one was moved to the front.
use mathlib.Core.Path.{◌≡◌, sym, ◌∙◌, ap}
use mathlib.Core.List.{List, [], ◌∷◌, ◌++◌, append_assoc}
use Prim.Native.Nat.{ℕ, suc, ◌+◌, ◌-◌, ◌≤◌, ◌<◌}
use native.Mathlib.Nat.{lt_of_not-le}
use native.Mathlib.Decide.{dec_le}
use native.Mathlib.Numerals.{add-one}
use native.Mathlib.Omega.{arith}
use lib.ListN.{length, get_or, take, drop, take-append-drop, length-append}
use lib.Seq.{slice, slice-cons, take-suc, take-take, drop_at, drop-append-le, drop-drop, take-append-add, length-take-le}
use Rattle.order.specs.Lists.{shifted}
use Rattle.order.specs.Order.{occurs}
use Rattle.order.proofs.Shifting.{slice_take, front, middle, shifted_front, shifted_before, shifted_at, shifted_moved, shifted_after}
use Rattle.order.proofs.Ordering.{occurs_append}

module _ (o : List ℕ) (base at n : ℕ) (low : base ≤ at) (more : at < n) (long : n ≤ length o) where
  -- the next packet and those behind it
  pub rest_next : slice at n o ≡ get_or o at 0 ∷ slice (at + 1) n o
  rest_next = slice-cons at n o 0 more long ∙ ap (λ (k : ℕ). get_or o at 0 ∷ slice k n o) (sym (add-one at))

  -- those taken, with one more
  pub taken_more : slice base (at + 1) o ≡ slice base at o ++ (get_or o at 0 ∷ [])
  taken_more =
      ap (λ (k : ℕ). slice base k o) (add-one at)
      ∙ ap (drop base) (take-suc o at 0 (omega arith))
      ∙ drop-append-le base (take at o) (get_or o at 0 ∷ []) (omega (arith, length-take-le at o (omega arith)))

  -- the list is those taken and those still to be taken
  pub list_is : slice base n o ≡ slice base at o ++ (get_or o at 0 ∷ slice (at + 1) n o)
  list_is =
      ap (drop base) (sym (take-append-drop at (take n o)) ∙ ap (λ (xs : List ℕ). xs ++ slice at n o) (take-take at n o (omega arith)))
      ∙ drop-append-le base (take at o) (slice at n o) (omega (arith, length-take-le at o (omega arith)))
      ∙ ap (λ (xs : List ℕ). slice base at o ++ xs) rest_next

  -- the first n with the next packet moved to the front
  moved : take n (shifted o base at (get_or o at 0)) ≡ take base o ++ (get_or o at 0 ∷ (slice base at o ++ slice (at + 1) n o))
  unfolding shifted
  moved =
      let e : n ≡ length (take base o) + suc (length (slice base at o) + (n - suc at)) = omega (arith, front o base at low (omega arith), middle o base at low (omega arith)) in
      ap (λ (k : ℕ). take k (take base o ++ (get_or o at 0 ∷ (slice base at o ++ drop (suc at) o)))) e
      ∙ take-append-add (take base o) (get_or o at 0 ∷ (slice base at o ++ drop (suc at) o)) (suc (length (slice base at o) + (n - suc at)))
      ∙ ap (λ (xs : List ℕ). take base o ++ (get_or o at 0 ∷ xs))
      (take-append-add (slice base at o) (drop (suc at) o) (n - suc at)
      ∙ ap (λ (xs : List ℕ). slice base at o ++ xs) (sym (slice_take (suc at) n o) ∙ ap (λ (k : ℕ). slice k n o) (sym (add-one at))))

  -- the list then begins with it
  pub list_moved : slice base n (shifted o base at (get_or o at 0)) ≡ get_or o at 0 ∷ (slice base at o ++ slice (at + 1) n o)
  list_moved = ap (drop base) moved ∙ drop_at (take base o) (get_or o at 0 ∷ (slice base at o ++ slice (at + 1) n o)) base (front o base at low (omega arith))

  -- without it the others keep their order
  pub list_without : slice (base + 1) n (shifted o base at (get_or o at 0)) ≡ slice base at o ++ slice (at + 1) n o
  list_without = sym (drop-drop 1 base (take n (shifted o base at (get_or o at 0)))) ∙ ap (drop 1) list_moved

  -- those taken, behind it
  pub taken_moved : slice (base + 1) (at + 1) (shifted o base at (get_or o at 0)) ≡ slice base at o
  taken_moved =
      ap (drop (base + 1))
      (shifted_front o base at (get_or o at 0) low (omega arith)
      ∙ sym (append_assoc (take base (take at o)) (get_or o at 0 ∷ []) (drop base (take at o))))
      ∙ drop_at (take base (take at o) ++ (get_or o at 0 ∷ [])) (drop base (take at o)) (base + 1)
      (omega (arith, length-append (take base (take at o)) (get_or o at 0 ∷ []), ap length (take-take base at o low), front o base at low (omega arith)))

  -- those still to be taken do not change
  pub rest_moved : slice (at + 1) n (shifted o base at (get_or o at 0)) ≡ slice (at + 1) n o
  rest_moved =
      ap (drop (at + 1)) (moved ∙ sym (append_assoc (take base o) (get_or o at 0 ∷ slice base at o) (slice (at + 1) n o)))
      ∙ drop_at (take base o ++ (get_or o at 0 ∷ slice base at o)) (slice (at + 1) n o) (at + 1)
      (omega (arith, length-append (take base o) (get_or o at 0 ∷ slice base at o), front o base at low (omega arith), middle o base at low (omega arith)))

  -- how often a number stands in the list: as often as in those taken, the next and those behind it
  pub list_occurs : (q : ℕ) → occurs q (slice base n o) ≡ occurs q (slice base at o) + occurs q (get_or o at 0 ∷ slice (at + 1) n o)
  list_occurs q = ap (occurs q) list_is ∙ occurs_append q (slice base at o) (get_or o at 0 ∷ slice (at + 1) n o)

  -- what holds of each of the first n holds of each once one is moved
  pub each_moved : (P : ℕ → Type 0) → ((j : ℕ) → j < n → P (get_or o j 0)) → (j : ℕ) → j < n → P (get_or (shifted o base at (get_or o at 0)) j 0)
  each_moved P each j h =
      elim (dec_le base j) [
        | no a ↦ rw (shifted_before o base at (get_or o at 0) low (omega arith) j (lt_of_not-le a)) (each j h)
        | yes a ↦ elim (dec_le j base) [
          | yes b ↦
              let e : j ≡ base = omega arith in
              rw (e, shifted_at o base at (get_or o at 0) low (omega arith)) (each at more)
          | no b ↦ elim (dec_le j at) [
            | yes c ↦
                let l : base < j = lt_of_not-le b in
                let e : j ≡ j - 1 + 1 = omega arith in
                rw (ap (λ (k : ℕ). get_or (shifted o base at (get_or o at 0)) k 0) e ∙ shifted_moved o base at (get_or o at 0) low (omega arith) (j - 1) (omega arith) (omega arith))
                (each (j - 1) (omega arith))
            | no c ↦ rw (shifted_after o base at (get_or o at 0) low (omega arith) j (lt_of_not-le c)) (each j h)
          ]
        ]
      ]
