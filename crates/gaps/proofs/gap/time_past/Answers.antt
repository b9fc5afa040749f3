-- `time_past` steps to the end or past it; where the pruning factor is 1 that is the end.
use mathlib.Core.Path.{◌≡◌, refl, sym, subst}
use Prim.Native.Nat.{ℕ, ◌-◌}
use native.Mathlib.Omega.{arith}
use Rattle.gaps.specs.Sweeps.{time_past}
use Rattle.gaps.proofs.Sweeping.{jump}
use Rattle.gaps.proofs.gap.time_past.Goals as goal

pub returns-then-each_cycle : goal.returns-then-each_cycle
unfolding time_past
returns-then-each_cycle c = subst (λ (f : ℕ). c.args.end ≡ time_past c.args.t c.args.end f) (sym c.if-each_cycle.true) (omega (arith, c.requires.before))

pub overflow_mul-result : goal.overflow_mul-result
overflow_mul-result c = omega (arith, (jump c.args.pruning (c.args.end - c.args.t) c.requires.some_step (omega (arith, c.requires.before))).tight, c.requires.soon, c.requires.small_step)

pub overflow_add-result-2 : goal.overflow_add-result-2
overflow_add-result-2 c = omega (arith, (jump c.args.pruning (c.args.end - c.args.t) c.requires.some_step (omega (arith, c.requires.before))).tight, c.requires)

pub returns : goal.returns
unfolding time_past
returns c = refl
