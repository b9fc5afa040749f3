-- Every public function's answer follows from its arguments: any two results that its contract allows are equal.
-- `Post` is a contract's `ensures` as a plain claim of the arguments, the result and the arguments at exit; `hyper_period` reads a
-- lent slice, and there the same numbers are enough, wherever they are kept.
use mathlib.Core.Path.{◌≡◌, sym, ◌∙◌, ap}
use contract.Lifetimes.{Lfts}
use denote.Triple.Clauses.{AtExit}
use borrow.Fn.Kinds.{Dens, res_t, ended_of}
use Rattle.basics.proofs.Determined.{Determined}
use Rattle.hyperperiod.specs.Hyper.{hyper_within}
use Rattle.hyperperiod.proofs.hyper.gcd.Reads as gcd
use Rattle.hyperperiod.proofs.hyper.gcd.Kinds as gcd_kinds
use Rattle.hyperperiod.proofs.hyper.hyper_period.Reads as hyper_period
use Rattle.hyperperiod.proofs.hyper.hyper_period.Kinds as hyper_period_kinds

-- the greatest common divisor
pub gcd_determined : Determined 0 gcd_kinds.ps gcd_kinds.r gcd.Post
gcd_determined κs a x y s t p q = p ∙ sym q

-- the hyper-period, of any two slices that hold the same periods
pub hyper_period_determined : (κs λs : Lfts 1) (a : Dens κs hyper_period_kinds.ps) (b : Dens λs hyper_period_kinds.ps)
    (x : (res_t hyper_period_kinds.r κs).Denot) (y : (res_t hyper_period_kinds.r λs).Denot)
    (s : AtExit (ended_of 1 hyper_period_kinds.ps hyper_period_kinds.r) κs)
    (t : AtExit (ended_of 1 hyper_period_kinds.ps hyper_period_kinds.r) λs)
    → a.0.now ≡ b.0.now → hyper_period.Post κs a x s → hyper_period.Post λs b y t → x ≡ y
hyper_period_determined κs λs a b x y s t same p q = p ∙ ap hyper_within same ∙ sym q
