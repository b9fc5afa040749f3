-- Nodes: numbers, and places in columns and rows.
use Rattle.std.specs.Prelude.{ℕ, ◌+◌, ◌*◌, ◌-◌, ◌/◌, ◌%◌, ◌≤◌, ◌<◌, leb}
use Rattle.basics.specs.Choose.{choose}
use Rattle.mesh.specs.declared.nodes.Place.{Place}

-- node n stands at column n mod columns, row n div columns
unfoldable pub place_of : ℕ → ℕ → Place
place_of columns node = record { column = node % columns; row = node / columns }

-- the node that stands at a place
unfoldable pub node_at : ℕ → Place → ℕ
node_at columns at = at.row * columns + at.column

-- how far two columns, or two rows, are apart
unfoldable pub apart : ℕ → ℕ → ℕ
apart a b = choose (leb a b) (b - a) (a - b)

-- the distance m: columns apart plus rows apart
unfoldable pub distance_of : ℕ → ℕ → ℕ → ℕ
distance_of columns a b = apart (a % columns) (b % columns) + apart (a / columns) (b / columns)

-- a place is inside the mesh
pub record Inside (columns rows : ℕ) (at : Place) : Type 0 where
  pub column_in : at.column < columns
  pub row_in : at.row < rows

-- two nodes of a mesh of at most 16 columns and 16 rows
pub record Ends (columns source target : ℕ) : Type 0 where
  pub some_columns : 0 < columns
  pub few_columns : columns ≤ 16
  pub source_in : source < 16 * columns
  pub target_in : target < 16 * columns
