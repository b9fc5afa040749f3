-- `first_meeting` returns at the first packet that has a partner, with the lowest.
use mathlib.Core.Path.{sym}
use native.Mathlib.Omega.{arith}
use borrow.Author.Count.{below_more}
use Rattle.pairs.proofs.Pairs.{none_higher, pair_found, pair_none}
use Rattle.pairs.proofs.scan.first_meeting.Goals as goal

pub returns-in-Some : goal.returns-in-Some
returns-in-Some c =
    sym (pair_found c.args.flows c.args.packets c.args.table.now c.loop-a.a c.in-Some.b c.loop-a-test.true (sym c.in-Some.ensures) c.loop-a.invariant)

pub loop-a-preserved : goal.loop-a-preserved
loop-a-preserved c =
    below_more _ _ c.loop-a.invariant (none_higher c.args.flows c.args.packets c.args.table.now c.loop-a.a (sym c.in_default.ensures))

pub returns : goal.returns
returns c = sym (pair_none c.args.flows c.args.packets c.args.table.now (λ k h. c.loop-a.invariant k (omega (arith, c.loop-a-test.false))))
