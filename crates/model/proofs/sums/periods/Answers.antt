-- `periods` stores one period after the other; the loop's invariant is that those of the flows before f stand in front (`Filled`).
use mathlib.Core.Path.{ap}
use native.Mathlib.Omega.{arith}
use lib.ListN.{length-set}
use Rattle.std.proofs.lemmas.List.Edits.{fill_by_more}
use Rattle.basics.proofs.Lists.{padded_front}
use Rattle.model.specs.Flows.{period_of, flow_of, flows_in}
use Rattle.model.specs.Packets.{periods_of}
use Rattle.model.specs.declared.flows.Flow.{Flow}
use Rattle.model.proofs.sums.periods.Goals as goal

pub loop-f-preserved : goal.loop-f-preserved
unfolding flows_in flow_of
loop-f-preserved c = record {
  front = rw (ap (λ (x : Flow). x.period) c.flow_of.ensures) (fill_by_more (period_of c.args.numbers.now) c.loop-f.period-items c.loop-f.f 0 (omega (arith, c.loop-f.invariant.size, c.loop-f-test.true)) c.loop-f.invariant.front);
  size = simp length-set c.loop-f.invariant.size;
}

pub returns : goal.returns
unfolding flows_in periods_of
returns c =
    rw c.flows_in-n.ensures
    (padded_front 64 0 (period_of c.args.numbers.now) _ 0 c.loop-f.period-items c.loop-f.invariant.size
    (λ k h. c.loop-f.invariant.front k (omega (arith, c.loop-f-test.false, c.loop-f.invariant.size))))
