-- The first of the placed packets that starts after a time: where it is, and that it is the point that parts them by their starts.
use mathlib.Core.Path.{◌≡◌, sym, ◌∙◌, ap}
use mathlib.Core.Bool.{true, false}
use Prim.Native.Nat.{ℕ, ◌+◌, ◌≤◌, ◌<◌}
use native.Mathlib.Nat.{lt_of_not-le}
use native.Mathlib.Decide.{dec_le}
use native.Mathlib.Omega.{arith}
use lib.Dec.{leb}
use lib.ListN.{length, get_or, take}
use lib.Seq.{length-take-le, get_or-take}
use borrow.Author.Tests.{leb-true, leb-false, lt-ltb, le-ltb}
use Rattle.std.specs.List.Sorted.{IsPartitionPoint, IsNonDecreasingBy}
use Rattle.std.proofs.lemmas.List.{get_or_default}
use Rattle.basics.proofs.First.{first_is, first_none}
use Rattle.kept.specs.Kept.{start_of, spot_of, Kept}
use Rattle.kept.specs.declared.finding.Taken.{Taken}

-- a place before which none starts after a time, and from which on all do, is the first that does
pub spot_is : (taken : Taken) (time at : ℕ) → at ≤ taken.count → ((j : ℕ) → j < at → start_of taken j ≤ time)
    → ((j : ℕ) → at ≤ j → j < taken.count → time < start_of taken j) → spot_of taken time ≡ at
unfolding spot_of
spot_is taken time at within below above =
    elim (dec_le taken.count at) [
      | yes a ↦
          let same : taken.count ≡ at = omega arith in
          first_none _ taken.count (λ j k. le-ltb time (start_of taken j) (below j (omega arith))) ∙ same
      | no a ↦
          let l : at < taken.count = lt_of_not-le a in
          first_is _ taken.count at l (lt-ltb time (start_of taken at) (above at (omega arith) l)) (λ j k. le-ltb time (start_of taken j) (below j k))
    ]

-- the start of a packet as the code reads it: past the table, after the time
abbrev pub read : Taken → ℕ → ℕ → ℕ
read taken time q = get_or taken.times q (time + 1)

module _ {taken : Taken} (kept : Kept taken) (time : ℕ) where
  -- the list has as many packets as are placed
  listed_length : length (take taken.count taken.by) ≡ taken.count
  listed_length = length-take-le taken.count taken.by (omega (arith, kept.few, kept.by_long))

  -- those of the placed packets are their starts
  read_is : (j d : ℕ) → j < taken.count → read taken time (get_or (take taken.count taken.by) j d) ≡ start_of taken j
  unfolding start_of
  read_is j d h =
      ap (λ (q : ℕ). get_or taken.times q (time + 1))
      (get_or-take taken.count taken.by j d h ∙ get_or_default taken.by j d 0 (omega (arith, kept.few, kept.by_long)))
      ∙ get_or_default taken.times (get_or taken.by j 0) (time + 1) 0 (omega (arith, kept.listed j h, kept.times_long))

  -- so they rise
  pub starts_rise : IsNonDecreasingBy (read taken time) (take taken.count taken.by)
  starts_rise i j d l h =
      let k : j < taken.count = omega (arith, listed_length) in
      omega (arith, read_is i d (omega arith), read_is j d k, kept.rising i j l k)

  -- the point that parts them at the time is the first after it
  pub point_spot : (at : ℕ)
      → IsPartitionPoint (λ q. leb (read taken time q) time ≡ true) (λ q. leb (read taken time q) time ≡ false) (take taken.count taken.by) at
      → at ≤ length (take taken.count taken.by) → at ≡ spot_of taken time
  point_spot at point within =
      sym
      (spot_is taken time at (omega (arith, listed_length))
      (λ j h.
      let k : j < taken.count = omega (arith, listed_length) in
      omega (arith, leb-true _ _ (point.0 j 0 (omega arith) h), read_is j 0 k))
      (λ j h k. omega (arith, leb-false _ _ (point.1 j 0 h (omega (arith, listed_length))), read_is j 0 k)))
