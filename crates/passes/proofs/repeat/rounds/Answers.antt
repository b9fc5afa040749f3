-- `rounds` takes one pass in each turn; fewer were begun than the ceiling (proofs/Searching.antt).
use mathlib.Core.Path.{refl}
use native.Mathlib.Omega.{arith}
use Rattle.passes.proofs.Searching.{searching_start, passes_least, passes_left, searching_on, searching_end}
use Rattle.passes.proofs.repeat.rounds.Goals as goal

pub loop-times-init : goal.loop-times-init
loop-times-init c = searching_start c.requires refl

pub overflow_add-passes : goal.overflow_add-passes
overflow_add-passes c = omega (arith, passes_least c.loop-times.invariant)

pub overflow_add-tries : goal.overflow_add-tries
overflow_add-tries c = omega (arith, passes_least c.loop-times.invariant, c.loop-times.invariant.bounded, c.pass-passed.ensures.bounded)

pub returns-in-Ok : goal.returns-in-Ok
returns-in-Ok c = searching_end c.loop-times.invariant c.pass-passed.ensures c.in-Ok.is

pub loop-times-smaller : goal.loop-times-smaller
loop-times-smaller c = omega (arith, passes_left c.loop-times.invariant)

pub loop-times-preserved : goal.loop-times-preserved
loop-times-preserved c = searching_on c.loop-times.invariant c.pass-passed.ensures c.in-Err.is
