-- Links: their numbers, the table of six kinds, where a link ends, and which links exist.
use Rattle.std.specs.Prelude.{Bool, List, [], ◌∷◌, ℕ, ◌+◌, ◌*◌, ◌/◌, ◌%◌, ◌<◌, ltb, ℤ, pos, negsuc, nat_abs, ◌+ℤ◌, get_or, ◌≤ℤ◌}
use Rattle.std.specs.Int.Signed.{le_z, lt_z}
use Rattle.basics.specs.Choose.{both}
use Rattle.mesh.specs.Node.{place_of, node_at}
use Rattle.mesh.specs.declared.nodes.Place.{Place}
use Rattle.mesh.specs.declared.links.Step.{Step}
use Rattle.mesh.specs.declared.links.Kind.{Kind}
use Rattle.mesh.specs.declared.links.Kind.TheVariants.{LocalIn, LocalOut, NextColumn, ColumnBefore, NextRow, RowBefore}

-- the number of each kind in the table
abbrev pub number_of : Kind → ℕ
number_of LocalIn = 0
number_of LocalOut = 1
number_of NextColumn = 2
number_of ColumnBefore = 3
number_of NextRow = 4
number_of RowBefore = 5

-- a link's number is 6 × its node + its kind
unfoldable pub link_of : ℕ → ℕ → ℕ
link_of node kind = 6 * node + kind

-- every link's number is below this: 6 for each of 16 × 16 nodes
abbrev pub all_links : ℕ
all_links = 1536

-- the node at which a link begins
unfoldable pub node_of : ℕ → ℕ
node_of link = link / 6

-- a link's kind
unfoldable pub kind_of : ℕ → ℕ
kind_of link = link % 6

-- one on
abbrev pub +1 : ℤ
+1 = pos 1

-- one back
abbrev pub -1 : ℤ
-1 = negsuc 0

-- the step to the same place
abbrev pub still : Step
still = record { column = pos 0; row = pos 0 }

-- the table of six kinds: the column step and the row step of each
unfoldable pub steps : List Step
steps =
    still
    ∷ still
    ∷ record { column = +1; row = pos 0 }
    ∷ record { column = -1; row = pos 0 }
    ∷ record { column = pos 0; row = +1 }
    ∷ record { column = pos 0; row = -1 }
    ∷ []

-- the step of a kind
unfoldable pub step_of : ℕ → Step
step_of kind = get_or steps kind still

-- the column to which a step of a kind leads from a place, as an integer
abbrev pub to_column : ℕ → Place → ℤ
to_column kind at = pos at.column +ℤ (step_of kind).column

-- the row to which a step of a kind leads from a place, as an integer
abbrev pub to_row : ℕ → Place → ℤ
to_row kind at = pos at.row +ℤ (step_of kind).row

-- the place at which a link of a kind ends that begins at a place; one whose step leads below 0 does not exist
unfoldable pub end_of : ℕ → Place → Place
end_of kind at = record { column = nat_abs (to_column kind at); row = nat_abs (to_row kind at) }

-- the node at which a link ends
unfoldable pub end_node : ℕ → ℕ → ℕ
end_node columns link = node_at columns (end_of (kind_of link) (place_of columns (node_of link)))

-- a step of a kind from a place stays in the mesh
unfoldable pub stays : ℕ → ℕ → ℕ → Place → Bool
stays columns rows kind at =
    both (both (le_z (pos 0) (to_column kind at)) (lt_z (to_column kind at) (pos columns)))
    (both (le_z (pos 0) (to_row kind at)) (lt_z (to_row kind at) (pos rows)))

-- a link exists if its node is in the mesh and it does not leave the mesh
unfoldable pub exists : ℕ → ℕ → ℕ → Bool
exists columns rows link =
    both (ltb (node_of link) (columns * rows)) (stays columns rows (kind_of link) (place_of columns (node_of link)))

-- what finding a link's end asks: a place of a small mesh from which the step of the kind does not lead below 0
pub record Inner (kind : ℕ) (at : Place) : Type 0 where
  pub column_in : at.column < 16
  pub row_in : at.row < 16
  pub column_left : pos 0 ≤ℤ to_column kind at
  pub row_left : pos 0 ≤ℤ to_row kind at
