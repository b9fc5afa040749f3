-- `place` resumes behind a twin, marks the links of its path and sweeps from the first packet that may not be over.
use mathlib.Core.Path.{ap}
use mathlib.Core.List.{List}
use Prim.Native.Nat.{ℕ}
use lib.ListN.{length, get_or}
use native.Mathlib.Omega.{arith}
use Rattle.load.specs.Load.{flow_at, span_of}
use Rattle.load.proofs.Paths.{path_number}
use Rattle.placing.specs.Held.{latest_at, place_in}
use Rattle.placing.proofs.Asking.{own_flow, resume_asks, sweep_asks, stamps}
use Rattle.placing.proofs.start.place.Goals as goal

pub bounds-traffic-own : goal.bounds-traffic-own
unfolding flow_at
bounds-traffic-own c = own_flow c.requires

pub overflow_add-latest : goal.overflow_add-latest
unfolding flow_at
overflow_add-latest c = omega (arith, c.requires.ends)

pub bounds-traffic-own-2 : goal.bounds-traffic-own-2
unfolding flow_at
bounds-traffic-own-2 c = own_flow c.requires

pub overflow_sub-latest : goal.overflow_sub-latest
unfolding flow_at span_of
overflow_sub-latest c = omega (arith, c.requires.fits)

pub resume-from-requires : goal.resume-from-requires
resume-from-requires c = resume_asks c.requires

pub path-requires : goal.path-requires
unfolding flow_at
path-requires c = (own_flow c.requires, c.requires.loaded.paths)

pub stamp-requires : goal.stamp-requires
unfolding flow_at
stamp-requires c =
    (λ a h. omega (arith, ap (λ (l : List ℕ). get_or l a 0) c.path.ensures, path_number c.requires.loaded.paths _ (own_flow c.requires) a (omega (arith, ap length c.path.ensures))), own_flow c.requires)

pub gap_for-requires : goal.gap_for-requires
unfolding flow_at latest_at span_of
gap_for-requires c = sweep_asks c.requires c.resume-from.ensures c.not_over-at.ensures (stamps (flow_at c.args.traffic.now c.args.p) c.args.marks.now c.path.ensures c.stamp.ensures)

pub returns : goal.returns
unfolding place_in flow_at latest_at span_of
returns c = (c.gap_for.ensures, stamps (flow_at c.args.traffic.now c.args.p) c.args.marks.now c.path.ensures c.stamp.ensures)
