-- Bounds: coordinates of a small mesh stay small, and so do the numbers made of them.
use mathlib.Core.Path.{◌≡◌}
use mathlib.Core.Bool.{Bool, true, false}
use Prim.Native.Nat.{ℕ, ◌*◌, ◌-◌, ◌≤◌, ◌<◌}
use native.Mathlib.Nat.{mul-le-mul, mod-lt, div-lt_iff_lt-mul}
use native.Mathlib.Omega.{arith}
use lib.Dec.{leb}
use Rattle.basics.specs.Choose.{choose}
use Rattle.mesh.specs.Node.{place_of, node_at, apart, Inside}
use Rattle.mesh.specs.declared.nodes.Place.{Place}

-- the number of a node's row, times the columns
row_small : (row columns : ℕ) → row < 16 → columns ≤ 16 → row * columns ≤ 240
row_small row columns h k = mul-le-mul {n₂ = 15} {m₂ = 16} (omega arith) k

-- what is below a bound is apart by less than it
pub apart_lt : (a b n : ℕ) → a < n → b < n → apart a b < n
unfolding apart
apart_lt a b n h k = go (leb a b)
  where
    go : (t : Bool) → choose t (b - a) (a - b) < n
    go true = omega arith
    go false = omega arith

-- the place of a node of a mesh of at most 16 rows is inside it
pub place_inside : (columns node : ℕ) (p : Place) → 0 < columns → node < 16 * columns → p ≡ place_of columns node → Inside columns 16 p
unfolding place_of
place_inside columns node p h k e = record {
  column_in = rw e (mod-lt node h);
  row_in = rw e ((div-lt_iff_lt-mul h).1 k);
}

-- two places inside a mesh are less than 16 columns and less than 16 rows apart
pub apart_inside : (columns : ℕ) (p q : Place) → columns ≤ 16 → Inside columns 16 p → Inside columns 16 q
    → (apart p.column q.column < columns) × (apart p.row q.row < 16)
apart_inside columns p q h i j =
    (apart_lt p.column q.column columns i.column_in j.column_in, apart_lt p.row q.row 16 i.row_in j.row_in)

-- the number of a node inside a mesh
pub node_small : (columns : ℕ) (p : Place) → columns ≤ 16 → Inside columns 16 p → node_at columns p < 256
unfolding node_at
node_small columns p h i = omega (arith, row_small p.row columns i.row_in h, i.column_in)
