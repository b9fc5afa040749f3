-- Nodes of the mesh: two nodes of a mesh of at most 16 × 16 are at most 30 apart, and the ends of a flow past 2 and 5 are such nodes.
use mathlib.Core.Path.{subst}
use mathlib.Core.List.{List}
use Prim.Native.Nat.{ℕ, ◌*◌, ◌/◌, ◌%◌, ◌≤◌, ◌<◌}
use native.Mathlib.Nat.{mod-lt, div-lt_iff_lt-mul, mul-le-mul, mul_comm, lt_of_lt_of_le}
use native.Mathlib.Omega.{arith}
use Rattle.mesh.specs.Node.{apart, distance_of, Ends}
use Rattle.mesh.proofs.Bounds.{apart_lt}
use Rattle.model.specs.Flows.{source_of, target_of, flows_in}
use Rattle.model.specs.Fair.{FairMesh, FairNodes, Sized, Fair}
use Rattle.model.specs.declared.flows.Mesh.{Mesh}

-- the distance of two nodes of a mesh of at most 16 columns and 16 rows is at most 30
pub distance_small : (columns a b : ℕ) → Ends columns a b → distance_of columns a b ≤ 30
unfolding distance_of
distance_small columns a b e =
    let across : apart (a % columns) (b % columns) < columns =
    apart_lt (a % columns) (b % columns) columns (mod-lt a e.some_columns) (mod-lt b e.some_columns) in
    let down : apart (a / columns) (b / columns) < 16 =
    apart_lt (a / columns) (b / columns) 16 ((div-lt_iff_lt-mul e.some_columns).1 e.source_in) ((div-lt_iff_lt-mul e.some_columns).1 e.target_in) in
    omega (arith, e.few_columns)

-- the ends of a flow past 2 and 5 are two nodes of such a mesh
pub ends_of : (mesh : Mesh) (numbers : List ℕ) (f : ℕ) → FairMesh mesh → FairNodes mesh numbers f → Ends mesh.columns (source_of numbers f) (target_of numbers f)
ends_of mesh numbers f m n =
    let all : mesh.columns * mesh.rows ≤ 16 * mesh.columns =
    subst (λ (k : ℕ). mesh.columns * mesh.rows ≤ k) (mul_comm mesh.columns 16) (mul-le-mul {n₂ = mesh.columns} {m₂ = 16} (omega arith) m.rows_high) in
    record {
      some_columns = m.columns_low;
      few_columns = m.columns_high;
      source_in = lt_of_lt_of_le n.source_in all;
      target_in = lt_of_lt_of_le n.target_in all;
    }

-- what the occupancy of a flow of the model asks
pub fair_sized : (mesh : Mesh) (numbers : List ℕ) (f : ℕ) → Fair mesh numbers → f < flows_in numbers → Sized mesh numbers f
fair_sized mesh numbers f fair h = record {
  fair_mesh = fair.fair_mesh;
  nodes = (fair.flows f h).nodes;
  times = (fair.flows f h).times;
  listed = omega (arith, fair.list.whole);
}
