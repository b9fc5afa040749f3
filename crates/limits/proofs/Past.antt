-- What the tests leave: numbers that get past a test are in their ranges (`.._fair`), and numbers in their ranges get past it
-- (`.._passes`). A number and its range first; then in document 01's order: 2; 4; 5, 6 and 7 of a flow.
use mathlib.Core.Path.{◌≡◌, ap}
use mathlib.Core.Bool.{false, not}
use mathlib.Core.List.{List}
use Prim.Native.Nat.{ℕ, ◌%◌, ◌≤◌}
use native.Mathlib.Omega.{arith}
use lib.ListN.{length}
use borrow.Author.Tests.{ltb-false, le-ltb, leb-false, lt-leb, eqb-true, eqb-false, eq-eqb, ne_eqb, not-false}
use Rattle.hyperperiod.specs.Hyper.{most}
use Rattle.model.specs.Flows.{per_flow, period_of, size_of, due_of, flows_in, occupancy_in}
use Rattle.limits.specs.Limits.{out_of_range, bad_mesh, bad_list, bad_nodes, bad_times, too_long}
use Rattle.model.specs.Fair.{FairMesh, FairList, FairNodes, FairTimes}
use Rattle.model.specs.declared.flows.Mesh.{Mesh}
use Rattle.basics.proofs.Choose.{neither, none_of}

-- ---- `out_of_range`

-- a number that is not outside a range is in it
pub inside : (low high n : ℕ) → out_of_range low high n ≡ false → (low ≤ n) × (n ≤ high)
unfolding out_of_range
inside low high n e = let p = neither _ _ e in (ltb-false n low p.0, ltb-false high n p.1)

-- a number in a range is not outside it
pub within : (low high n : ℕ) → low ≤ n → n ≤ high → out_of_range low high n ≡ false
unfolding out_of_range
within low high n p q = none_of _ _ (le-ltb n low p) (le-ltb high n q)

-- ---- 2

-- past 2, mesh numbers are in their ranges
pub mesh_fair : (mesh : Mesh) → bad_mesh mesh ≡ false → FairMesh mesh
unfolding bad_mesh
mesh_fair mesh e =
    let first = neither _ _ e in
    let second = neither _ _ first.1 in
    let third = neither _ _ second.1 in
    let columns = inside 1 16 mesh.columns first.0 in
    let rows = inside 1 16 mesh.rows second.0 in
    let r = inside 1 64 mesh.r third.0 in
    let flit = inside 1 64 mesh.flit third.1 in
    record {
      columns_low = columns.0;
      columns_high = columns.1;
      rows_low = rows.0;
      rows_high = rows.1;
      r_low = r.0;
      r_high = r.1;
      flit_low = flit.0;
      flit_high = flit.1;
    }

-- mesh numbers in their ranges get past 2
pub mesh_passes : (mesh : Mesh) → FairMesh mesh → bad_mesh mesh ≡ false
unfolding bad_mesh
mesh_passes mesh m =
    none_of _ _ (within 1 16 mesh.columns m.columns_low m.columns_high)
    (none_of _ _ (within 1 16 mesh.rows m.rows_low m.rows_high)
    (none_of _ _ (within 1 64 mesh.r m.r_low m.r_high) (within 1 64 mesh.flit m.flit_low m.flit_high)))

-- ---- 4

-- past 4, the list is whole flows, 1 to 64 of them
pub list_fair : (numbers : List ℕ) → bad_list numbers ≡ false → FairList numbers
unfolding bad_list flows_in
list_fair numbers e =
    let both = neither _ _ e in
    let rest : length numbers % per_flow ≡ 0 = eqb-true _ 0 (not-false _ both.0) in
    let flows = inside 1 64 (flows_in numbers) both.1 in
    record { whole = omega arith; flows_low = flows.0; flows_high = flows.1 }

-- whole flows, 1 to 64 of them, get past 4
pub list_passes : (numbers : List ℕ) → FairList numbers → bad_list numbers ≡ false
unfolding bad_list flows_in
list_passes numbers l =
    let rest : length numbers % per_flow ≡ 0 = omega (arith, l.whole) in
    none_of _ _ (ap not (eq-eqb (length numbers % per_flow) 0 rest)) (within 1 64 (flows_in numbers) l.flows_low l.flows_high)

-- ---- 5, 6 and 7 of flow f

module _ (mesh : Mesh) (numbers : List ℕ) (f : ℕ) where
  -- past 5, source and target are two nodes
  pub nodes_fair : bad_nodes mesh numbers f ≡ false → FairNodes mesh numbers f
  unfolding bad_nodes
  nodes_fair e =
      let first = neither _ _ e in
      let second = neither _ _ first.1 in
      record {
        source_in = leb-false _ _ first.0;
        target_in = leb-false _ _ second.0;
        apart = eqb-false _ _ second.1;
      }

  -- two nodes get past 5
  pub nodes_passes : FairNodes mesh numbers f → bad_nodes mesh numbers f ≡ false
  unfolding bad_nodes
  nodes_passes n = none_of _ _ (lt-leb _ _ n.source_in) (none_of _ _ (lt-leb _ _ n.target_in) (ne_eqb _ _ n.apart))

module _ (numbers : List ℕ) (f : ℕ) where
  -- past 6, period, size and deadline are in their ranges
  pub times_fair : bad_times numbers f ≡ false → FairTimes numbers f
  unfolding bad_times
  times_fair e =
      let first = neither _ _ e in
      let second = neither _ _ first.1 in
      let period = inside 1 most (period_of numbers f) first.0 in
      let size = inside 1 65536 (size_of numbers f) second.0 in
      let due = inside 1 (period_of numbers f) (due_of numbers f) second.1 in
      record {
        period_low = period.0;
        period_high = period.1;
        size_low = size.0;
        size_high = size.1;
        due_low = due.0;
        due_high = due.1;
      }

  -- period, size and deadline in their ranges get past 6
  pub times_passes : FairTimes numbers f → bad_times numbers f ≡ false
  unfolding bad_times
  times_passes t =
      none_of _ _ (within 1 most (period_of numbers f) t.period_low t.period_high)
      (none_of _ _ (within 1 65536 (size_of numbers f) t.size_low t.size_high)
      (within 1 (period_of numbers f) (due_of numbers f) t.due_low t.due_high))

module _ (mesh : Mesh) (numbers : List ℕ) (f : ℕ) where
  -- past 7, the occupancy is at most D
  pub long_fair : too_long mesh numbers f ≡ false → occupancy_in mesh numbers f ≤ due_of numbers f
  unfolding too_long
  long_fair e = ltb-false _ _ e

  -- an occupancy of at most D gets past 7
  pub long_passes : occupancy_in mesh numbers f ≤ due_of numbers f → too_long mesh numbers f ≡ false
  unfolding too_long
  long_passes h = le-ltb _ _ h
