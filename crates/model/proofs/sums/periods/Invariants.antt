-- `periods` stores one period after the other; the loop's invariant is that those of the flows before f stand in front (`Filled`).
use Prim.Native.Nat.{ℕ, ◌<◌}
use mathlib.Core.Path.{◌≡◌}
use mathlib.Core.List.{List}
use lib.ListN.{length, get_or}
use Rattle.model.specs.Flows.{period_of, flows_in}
use Rattle.model.proofs.sums.periods.Given as goal

-- the places lent to the loop hold the periods of the flows before f
pub record Filled (numbers items : List ℕ) (f : ℕ) : Type 0 where
  pub front : (k : ℕ) → k < f → get_or items k 0 ≡ period_of numbers k
  pub size : length items ≡ flows_in numbers

abbrev pub invariant-loop-f : goal.invariant-loop-f
invariant-loop-f l = Filled l.numbers l.period-items l.f
