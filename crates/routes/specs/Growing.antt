-- How a path grows: by one link, and by n links of one kind.
use Rattle.std.specs.Prelude.{ℕ, zero, suc, ◌+◌, ◌≤◌, pos, set, ◌≤ℤ◌}
use Rattle.mesh.specs.Node.{node_at, Inside}
use Rattle.mesh.specs.Link.{link_of, to_column, to_row, end_of}
use Rattle.mesh.specs.declared.nodes.Place.{Place}
use Rattle.routes.specs.declared.paths.Path.{Path}

-- the path with one more link
unfoldable pub pushed : Path → ℕ → Path
pushed path link = record { links = set path.links path.len link; len = path.len + 1 }

-- the path with n more links of one kind, from a place on
unfoldable pub walked : Path → ℕ → ℕ → ℕ → Place → Path
walked path columns kind zero at = path
walked path columns kind (suc n) at = walked (pushed path (link_of (node_at columns at) kind)) columns kind n (end_of kind at)

-- n steps of a kind from a place stay inside the mesh
abbrev pub Stays : ℕ → ℕ → ℕ → ℕ → Place → Type 0
Stays columns rows kind zero at = Inside columns rows at
Stays columns rows kind (suc n) at =
    Inside columns rows at × (pos 0 ≤ℤ to_column kind at) × (pos 0 ≤ℤ to_row kind at) × Stays columns rows kind n (end_of kind at)

-- what a walk of n steps of a kind asks: a mesh of at most 16 columns and rows, room in the path, and steps that stay inside
pub record Walkable (path : Path) (columns kind n : ℕ) (from : Place) : Type 0 where
  pub few_columns : columns ≤ 16
  pub room : path.len + n ≤ 32
  pub inside : Stays columns 16 kind n from
