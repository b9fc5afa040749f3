-- `occupancy_of` is its definition over the flow that `flow_of` gives; the ranges past 2, 5 and 6 are what `distance` and `occupancy` ask.
use mathlib.Core.Path.{◌≡◌, refl, ap}
use mathlib.Core.List.{List}
use Prim.Native.Nat.{ℕ, ◌≤◌}
use native.Mathlib.Nat.{div-le_self}
use native.Mathlib.Omega.{arith}
use Rattle.time.specs.Units.{flits_of}
use Rattle.mesh.specs.Node.{distance_of}
use Rattle.model.specs.declared.flows.Flow.{Flow}
use Rattle.model.specs.declared.flows.Mesh.{Mesh}
use Rattle.model.specs.Fair.{Sized}
use Rattle.model.specs.Flows.{source_of, target_of, flow_of, occupancy_in}
use Rattle.model.proofs.Near.{distance_small, ends_of}
use Rattle.model.proofs.flows.occupancy_of.Goals as goal

-- the distance of a flow's nodes is at most 30
near : {mesh : Mesh} {numbers : List ℕ} {f : ℕ} → Sized mesh numbers f → {s t d : ℕ} → s ≡ source_of numbers f → t ≡ target_of numbers f
    → d ≡ distance_of mesh.columns s t → d ≤ 30
near {mesh} {numbers} {f} sized es et ed = rw (ed, es, et) (distance_small _ _ _ (ends_of mesh numbers f sized.fair_mesh sized.nodes))

-- the payload is at most as many flits as bytes
light : (flit size : ℕ) → size ≤ 65536 → (flits_of (record { 0 = size }) (record { 0 = flit })).0 ≤ 65536
unfolding flits_of
light flit size small = omega (arith, div-le_self size flit)

pub distance-m-requires : goal.distance-m-requires
unfolding flow_of
distance-m-requires c =
    let pre = c.requires in
    rw c.flow_of-flow.ensures (ends_of _ _ _ pre.fair_mesh pre.nodes)

pub overflow_cast-m : goal.overflow_cast-m
unfolding flow_of
overflow_cast-m c =
    let d = near c.requires (ap (λ (x : Flow). x.source) c.flow_of-flow.ensures) (ap (λ (x : Flow). x.target) c.flow_of-flow.ensures) c.distance-m.ensures in
    omega arith

pub occupancy-requires : goal.occupancy-requires
unfolding flow_of
occupancy-requires c =
    let size : c.flow_of-flow.result.size ≤ 65536 = rw c.flow_of-flow.ensures c.requires.times.size_high in
    let d = near c.requires (ap (λ (x : Flow). x.source) c.flow_of-flow.ensures) (ap (λ (x : Flow). x.target) c.flow_of-flow.ensures) c.distance-m.ensures in
    (c.requires.fair_mesh.r_high, d, rw c.flits_of.ensures (light _ _ size))

pub returns : goal.returns
unfolding occupancy_in flow_of
returns c = rw (c.occupancy.ensures, c.flits_of.ensures, c.distance-m.ensures, c.flow_of-flow.ensures) refl
