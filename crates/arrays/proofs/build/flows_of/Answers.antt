-- `flows_of` writes the next flow's numbers behind those of the flows before it in each turn.
use mathlib.Core.Path.{◌≡◌, ◌∙◌, ap}
use native.Mathlib.Omega.{arith}
use Rattle.model.specs.Flows.{flow_of, flows_in}
use Rattle.model.proofs.Near.{ends_of, fair_sized}
use Rattle.arrays.specs.Arrays.{flows_up_to}
use Rattle.arrays.specs.declared.build.Flows.{Flows}
use Rattle.arrays.proofs.Filling.{flow_next}
use Rattle.arrays.proofs.Building.{entry_is, listing_none, listing_all}
use Rattle.arrays.proofs.build.flows_of.Goals as goal

pub loop-f-init : goal.loop-f-init
loop-f-init c = listing_none _ _ _ c.none-flows.ensures

pub occupancy_of-held-requires : goal.occupancy_of-held-requires
unfolding flows_in
occupancy_of-held-requires c = fair_sized c.args.mesh c.args.numbers.now c.loop-f.f c.requires (rw c.flows_in-f-end.ensures at c.loop-f-test.true)

pub route-path-requires : goal.route-path-requires
unfolding flows_in flow_of
route-path-requires c =
    let mesh = c.args.mesh in
    let numbers = c.args.numbers.now in
    let f = c.loop-f.f in
    let fair = c.requires in
    rw c.flow_of-flow.ensures
    (ends_of mesh numbers f fair.fair_mesh (fair.flows f (rw c.flows_in-f-end.ensures at c.loop-f-test.true)).nodes)

pub push-requires : goal.push-requires
unfolding flows_in flows_up_to
push-requires c =
    let count : c.loop-f.flows.count ≡ c.loop-f.f = ap (λ (x : Flows). x.count) c.loop-f.invariant.its_flows in
    omega (arith, c.loop-f-test.true, c.flows_in-f-end.ensures, c.requires.list.flows_high)

pub loop-f-preserved : goal.loop-f-preserved
unfolding flows_in
loop-f-preserved c =
    let mesh = c.args.mesh in
    let numbers = c.args.numbers.now in
    let f = c.loop-f.f in
    let below = rw c.flows_in-f-end.ensures at c.loop-f-test.true in
    record {
      its_flows =
          c.push.ensures
          ∙ flow_next mesh numbers c.loop-f.flows f _ (omega (arith, below, c.requires.list.flows_high)) c.loop-f.invariant.its_flows
          (entry_is mesh numbers f _ _ _ c.flow_of-flow.ensures c.occupancy_of-held.ensures c.route-path.ensures);
      within = omega (arith, below);
    }

pub returns : goal.returns
unfolding flows_in
returns c = listing_all c.args.mesh c.args.numbers.now c.loop-f.flows c.loop-f.f c.loop-f.invariant (rw c.flows_in-f-end.ensures at c.loop-f-test.false)
