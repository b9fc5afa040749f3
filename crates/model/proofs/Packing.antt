-- Laws of the sums: the list of all periods as an array that is filled from the front, and as what the hyper-period asks; H as it is
-- found; and how many packets there are, with a bound that keeps the sum in 32 bits.
use Rattle.std.proofs.Common.{Some}
use mathlib.Core.Path.{◌≡◌, subst}
use mathlib.Core.List.{List}
use Prim.Native.Nat.{ℕ, zero, suc, ◌*◌, ◌≤◌}
use native.Mathlib.Nat.{div-le_self, lt_of_not-le}
use native.Mathlib.Decide.{dec_le}
use native.Mathlib.Omega.{arith}
use lib.ListN.{take}
use Rattle.basics.specs.Lists.{padded}
use Rattle.basics.specs.Sums.{sum_of}
use Rattle.basics.proofs.Lists.{tabulate_length, padded_take}
use Rattle.time.specs.Units.{turns_of}
use Rattle.hyperperiod.specs.Hyper.{most, hyper_of, hyper_within}
use Rattle.hyperperiod.proofs.HyperPeriod.{within_is, within_above}
use Rattle.model.specs.Flows.{period_of, flows_in}
use Rattle.model.specs.Packets.{periods_of, hyper_in, turns_in}

-- ---- all periods

-- the front of an array that holds the periods is the list of them
pub periods_front : (numbers : List ℕ) {all : List ℕ} → all ≡ padded 64 0 (periods_of numbers) → take (flows_in numbers) all ≡ periods_of numbers
unfolding periods_of
periods_front numbers e =
    rw e
    (subst (λ (k : ℕ). take k (padded 64 0 (periods_of numbers)) ≡ periods_of numbers) (tabulate_length (period_of numbers) 0 (flows_in numbers))
    (padded_take 64 0 (periods_of numbers)))

-- ---- H

-- an H that is found is the least common multiple, and at the limit or below
pub is_only : (ps : List ℕ) (h : ℕ) → hyper_within ps ≡ Some h → (h ≡ hyper_of ps) × (h ≤ most)
is_only ps h e = elim (dec_le (hyper_of ps) most) [
  | yes l ↦ let q : h ≡ hyper_of ps = cc (within_is ps l) in (q, omega arith)
  | no l ↦ let z : ◌≡◌ {A = ℕ} 0 1 = cc (within_above ps (lt_of_not-le l)) in absurd (omega arith)
]

-- ---- packets

-- the packets of the first flows, each of at most H turns
pub turns_most : (numbers : List ℕ) → hyper_in numbers ≤ most → (f : ℕ) → sum_of (turns_in numbers) f ≤ f * most
unfolding sum_of turns_in turns_of
turns_most numbers h zero = omega arith
turns_most numbers h (suc f) = omega (arith, turns_most numbers h f, div-le_self (hyper_in numbers) (period_of numbers f))
