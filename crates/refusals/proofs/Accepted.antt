-- What the tests leave: numbers that get past all tests are in their ranges (`.._fair`), and numbers in their ranges get past them
-- (`.._passes`). In document 01's order: a flow; all flows; 8 and 9; then
-- the whole, `accepted_fair` and `fair_accepted`.
use mathlib.Core.Path.{◌≡◌, refl, sym, ◌∙◌, ap}
use mathlib.Core.Bool.{Bool, true, false, true≢false}
use mathlib.Core.List.{List}
use Prim.Native.Nat.{ℕ, ◌≤◌, ◌<◌}
use native.Mathlib.Omega.{arith}
use lib.Dec.{ltb}
use borrow.Author.Tests.{ltb-true, ltb-false, lt-ltb, le-ltb}
use Rattle.std.specs.Prelude.{Err, is_err}
use Rattle.basics.specs.Choose.{choose}
use Rattle.basics.specs.First.{first}
use Rattle.basics.proofs.First.{first_is, first_least, first_passes, first_none}
use Rattle.hyperperiod.specs.Hyper.{most}
use Rattle.model.specs.Flows.{flows_in}
use Rattle.model.specs.Packets.{hyper_in, packets_in}
use Rattle.limits.specs.Limits.{bad_nodes, bad_times}
use Rattle.refusals.specs.Refusals.{bad_hyper, bad_packets, bad_flow, Tested, accepted, refuse_if, flow_refusal, flows_refusal, sums_refusal, refusal_of}
use Rattle.model.specs.Fair.{FairList, Listed, Sized, Timed, FairFlow, Fair}
use Rattle.model.specs.declared.flows.Mesh.{Mesh}
use Rattle.model.specs.declared.answers.Refusal.{Refusal}
use Rattle.limits.proofs.Past.{mesh_fair, mesh_passes, list_fair, list_passes, nodes_fair, nodes_passes, times_fair, times_passes, long_fair, long_passes}

-- ---- a flow

module _ (mesh : Mesh) (numbers : List ℕ) (f : ℕ) where
  -- a flow that is not refused passes every test of its own
  pub flow_fair : flow_refusal mesh numbers f ≡ accepted → FairFlow mesh numbers f
  unfolding flow_refusal refuse_if
  flow_fair e = record {
    nodes = nodes_fair mesh numbers f (grind arith);
    times = times_fair numbers f (grind arith);
    fits = long_fair mesh numbers f (grind arith);
  }

  -- a flow past 5 and 6 is what the occupancy asks
  pub sized_past : Listed mesh numbers f → bad_nodes mesh numbers f ≡ false → bad_times numbers f ≡ false → Sized mesh numbers f
  sized_past l n t = record { fair_mesh = l.fair_mesh; nodes = nodes_fair mesh numbers f n; times = times_fair numbers f t; listed = l.listed }

  -- a flow that passes every test of its own is not refused
  pub flow_passes : FairFlow mesh numbers f → flow_refusal mesh numbers f ≡ accepted
  unfolding flow_refusal refuse_if
  flow_passes p = grind (arith, nodes_passes mesh numbers f p.nodes, times_passes numbers f p.times, long_passes mesh numbers f p.fits)

  -- a flow is good where it is not refused
  pub flow_good : flow_refusal mesh numbers f ≡ accepted → bad_flow mesh numbers f ≡ false
  unfolding bad_flow
  flow_good e = ap is_err e

  -- and only there
  pub good_flow : bad_flow mesh numbers f ≡ false → flow_refusal mesh numbers f ≡ accepted
  unfolding bad_flow
  good_flow e = grind arith

  -- a flow is bad where it is refused
  flow_bad : (r : Refusal) → flow_refusal mesh numbers f ≡ Err r → bad_flow mesh numbers f ≡ true
  unfolding bad_flow
  flow_bad r e = ap is_err e

-- ---- all flows

module _ (mesh : Mesh) (numbers : List ℕ) where
  -- where no flow is refused, the flows are not
  pub flows_accepted : ((f : ℕ) → f < flows_in numbers → bad_flow mesh numbers f ≡ false) → flows_refusal mesh numbers ≡ accepted
  unfolding flows_refusal
  flows_accepted none = rw (le-ltb (first (bad_flow mesh numbers) (flows_in numbers)) (flows_in numbers) (omega (arith, first_none (bad_flow mesh numbers) (flows_in numbers) none)))

  -- a refused flow with none before it is the one that is named
  pub flows_refused : (f : ℕ) (r : Refusal) → f < flows_in numbers → flow_refusal mesh numbers f ≡ Err r
      → ((j : ℕ) → j < f → bad_flow mesh numbers j ≡ false) → flows_refusal mesh numbers ≡ Err r
  unfolding flows_refusal
  flows_refused f r h e none =
      rw (first_is (bad_flow mesh numbers) (flows_in numbers) f h (flow_bad mesh numbers f r e) none, lt-ltb f (flows_in numbers) h) e

  -- past all flows, each passes every test of its own
  pub flows_fair : flows_refusal mesh numbers ≡ accepted → (f : ℕ) → f < flows_in numbers → FairFlow mesh numbers f
  unfolding flows_refusal
  flows_fair e f h = go (ltb lowest (flows_in numbers)) refl e
    where
      lowest : ℕ
      lowest = first (bad_flow mesh numbers) (flows_in numbers)

      go : (t : Bool) → ltb lowest (flows_in numbers) ≡ t → choose t (flow_refusal mesh numbers lowest) accepted ≡ accepted → FairFlow mesh numbers f
      go true l z =
          absurd (true≢false (sym (first_passes (bad_flow mesh numbers) (flows_in numbers) (ltb-true _ _ l)) ∙ flow_good mesh numbers lowest z))
      go false l z = flow_fair mesh numbers f (good_flow mesh numbers f (first_least (bad_flow mesh numbers) (flows_in numbers) f (omega (arith, ltb-false lowest (flows_in numbers) l))))

  -- a list past 4 and all flows is what the hyper-period asks
  pub timed_past : FairList numbers → flows_refusal mesh numbers ≡ accepted → Timed numbers
  timed_past l e = record { list = l; times = λ f h. (flows_fair e f h).times }

  -- flows that pass every test of their own are not refused
  pub flows_passes : ((f : ℕ) → f < flows_in numbers → FairFlow mesh numbers f) → flows_refusal mesh numbers ≡ accepted
  flows_passes fair = flows_accepted (λ f h. flow_good mesh numbers f (flow_passes mesh numbers f (fair f h)))

-- ---- 8 and 9

-- past 8 and 9, H and the packets are within their limits
pub sums_fair : (numbers : List ℕ) → sums_refusal numbers ≡ accepted → (hyper_in numbers ≤ most) × (packets_in numbers ≤ 1024)
unfolding sums_refusal bad_hyper bad_packets refuse_if
sums_fair numbers e = (grind arith, grind arith)

-- H and packets within their limits are not refused
pub sums_passes : (numbers : List ℕ) → hyper_in numbers ≤ most → packets_in numbers ≤ 1024 → sums_refusal numbers ≡ accepted
unfolding sums_refusal bad_hyper bad_packets refuse_if
sums_passes numbers h k = grind arith

-- ---- the whole

module _ (mesh : Mesh) (between : Tested) (numbers : List ℕ) (e : refusal_of mesh between numbers ≡ accepted) where
  -- where nothing refuses, the flows and the sums do not
  flows_none : flows_refusal mesh numbers ≡ accepted
  unfolding refusal_of refuse_if
  flows_none = grind arith

  sums_none : sums_refusal numbers ≡ accepted
  unfolding refusal_of refuse_if
  sums_none = grind arith

  -- a model that is not refused has every number in its range
  pub accepted_fair : Fair mesh numbers
  unfolding refusal_of refuse_if
  accepted_fair = record {
    fair_mesh = mesh_fair mesh (grind arith);
    list = list_fair numbers (grind arith);
    flows = flows_fair mesh numbers flows_none;
    hyper_high = (sums_fair numbers sums_none).0;
    packets_high = (sums_fair numbers sums_none).1;
  }

  -- nor did the caller refuse between 2 and 4
  pub accepted_between : between ≡ accepted
  unfolding refusal_of refuse_if
  accepted_between = grind arith

-- a model with every number in its range is not refused
pub fair_accepted : (mesh : Mesh) (numbers : List ℕ) → Fair mesh numbers → refusal_of mesh accepted numbers ≡ accepted
unfolding refusal_of refuse_if
fair_accepted mesh numbers p =
    grind (arith, mesh_passes mesh p.fair_mesh, list_passes numbers p.list, flows_passes mesh numbers p.flows, sums_passes numbers p.hyper_high p.packets_high)
