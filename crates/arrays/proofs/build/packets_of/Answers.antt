-- `packets_of` writes one packet behind those before it in each turn of its inner loop, the packets of a flow in each of its outer.
use mathlib.Core.Path.{ap}
use native.Mathlib.Omega.{arith}
use Rattle.model.specs.Flows.{flow_of, flows_in}
use Rattle.model.specs.declared.flows.Flow.{Flow}
use Rattle.arrays.proofs.Building.{packing_none, packing_all, packing_flow, packing_turn, packing_room, turns_are, release_within}
use Rattle.arrays.proofs.build.packets_of.Goals as goal

pub loop-f-init : goal.loop-f-init
loop-f-init c = packing_none _ _ c.none-packets.ensures

pub nonzero_div-k-end : goal.nonzero_div-k-end
unfolding flows_in flow_of
nonzero_div-k-end c = rw c.flow_of-period.ensures (c.requires.timed.times c.loop-f.f (rw c.flows_in-f-end.ensures at c.loop-f-test.true)).period_low

pub push-requires : goal.push-requires
unfolding flows_in flow_of
push-requires c =
    packing_room c.loop-k.invariant (rw c.flows_in-f-end.ensures at c.loop-f-test.true) c.requires (ap (λ (x : Flow). x.period) c.flow_of-period.ensures) c.loop-k-test.true

pub overflow_mul-k : goal.overflow_mul-k
unfolding flows_in flow_of
overflow_mul-k c =
    omega (arith, release_within c.loop-f.f c.requires (ap (λ (x : Flow). x.period) c.flow_of-period.ensures) c.loop-k.k (rw c.flows_in-f-end.ensures at c.loop-f-test.true) c.loop-k-test.true, c.requires.hyper_high)

pub loop-k-preserved : goal.loop-k-preserved
unfolding flows_in flow_of
loop-k-preserved c =
    rw c.push.ensures
    (packing_turn c.loop-k.invariant (rw c.flows_in-f-end.ensures at c.loop-f-test.true) c.requires (ap (λ (x : Flow). x.period) c.flow_of-period.ensures) c.loop-k-test.true)

pub loop-f-preserved : goal.loop-f-preserved
unfolding flows_in flow_of
loop-f-preserved c =
    packing_flow c.loop-k.invariant (rw c.flows_in-f-end.ensures at c.loop-f-test.true)
    (omega (arith, c.loop-k-test.false, turns_are c.loop-f.f c.requires (ap (λ (x : Flow). x.period) c.flow_of-period.ensures)))

pub returns : goal.returns
unfolding flows_in
returns c = packing_all c.args.numbers.now c.loop-f.packets c.loop-f.f c.loop-f.invariant (rw c.flows_in-f-end.ensures at c.loop-f-test.false)
