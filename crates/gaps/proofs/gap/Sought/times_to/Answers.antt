-- `times_to` divides what lies between by the pruning factor.
use mathlib.Core.Path.{refl}
use Prim.Native.Nat.{◌-◌}
use native.Mathlib.Nat.{div-le_self}
use native.Mathlib.Omega.{arith}
use Rattle.gaps.specs.Gaps.{slots_to}
use Rattle.gaps.proofs.gap.Sought.times_to.Goals as goal

pub overflow_add-result : goal.overflow_add-result
overflow_add-result c = omega (arith, div-le_self (c.args.time - c.args.self.now.begin) c.args.self.now.pruning, c.requires.2)

pub returns : goal.returns
unfolding slots_to
returns c = refl
