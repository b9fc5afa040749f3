-- `first_meeting` returns at the first packet that has a partner, with the lowest.
use mathlib.Core.Path.{◌≡◌}
use mathlib.Core.Bool.{false}
use Prim.Native.Nat.{ℕ, ◌<◌}
use Rattle.pairs.specs.Scan.{higher_in}
use Rattle.pairs.proofs.scan.first_meeting.Given as goal

abbrev pub invariant-loop-a : goal.invariant-loop-a
invariant-loop-a l = (k : ℕ) → k < l.a → higher_in l.fn.flows l.fn.packets l.table k ≡ false
