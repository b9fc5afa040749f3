-- `gcd` meets its contract, by the two equations of `gcd_of` in proofs/Divisor.antt.
use mathlib.Core.Path.{◌≡◌, sym, ◌∙◌}
use Prim.Native.Nat.{◌<◌}
use native.Mathlib.Omega.{arith}
use Rattle.hyperperiod.proofs.Divisor.{gcd_zero, gcd_step}
use Rattle.hyperperiod.proofs.hyper.+gcd.Goals as goal

pub returns-then-none_left : goal.returns-then-none_left
returns-then-none_left t c = let e : c.args.b ≡ 0 = c.if-none_left.true in rw (e, gcd_zero)

pub returns-else-none_left : goal.returns-else-none_left
returns-else-none_left t c = let h : 0 < c.args.b = omega (arith, c.if-none_left.false) in c.gcd.ensures ∙ sym (gcd_step _ _ h)
