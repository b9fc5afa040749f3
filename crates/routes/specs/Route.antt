-- Paths: XY from source to target, and a path as an array of 32 link numbers beside its length.
use Rattle.std.specs.Prelude.{◌≡◌, List, [], ◌∷◌, ◌++◌, ℕ, zero, suc, ◌+◌, leb, length, take}
use Rattle.basics.specs.Lists.{padded}
use Rattle.basics.specs.Choose.{choose}
use Rattle.mesh.specs.Node.{place_of, node_at, apart}
use Rattle.mesh.specs.Link.{link_of, node_of, end_of, end_node}
use Rattle.mesh.specs.declared.nodes.Place.{Place}
use Rattle.routes.specs.declared.paths.Path.{Path}

-- the kind that leads from a towards b: up by the kind itself, down by the kind after it
unfoldable pub towards : ℕ → ℕ → ℕ → ℕ
towards kind a b = choose (leb a b) kind (kind + 1)

-- the links of n steps of one kind from a place
unfoldable pub leg : ℕ → ℕ → ℕ → Place → List ℕ
leg columns kind zero at = []
leg columns kind (suc n) at = link_of (node_at columns at) kind ∷ leg columns kind n (end_of kind at)

-- the links along the row from one column to another
unfoldable pub along_row : ℕ → Place → Place → List ℕ
along_row columns a b = leg columns (towards 2 a.column b.column) (apart a.column b.column) a

-- the links along the column from one row to another
unfoldable pub along_column : ℕ → Place → Place → List ℕ
along_column columns a b = leg columns (towards 4 a.row b.row) (apart a.row b.row) a

-- where an XY path turns: the target's column in the source's row
unfoldable pub corner : Place → Place → Place
corner a b = record { column = b.column; row = a.row }

-- a path goes XY: L-source, then along the row to the target's column, then along that column, then target-L
unfoldable pub route_of : ℕ → ℕ → ℕ → List ℕ
route_of columns source target =
    let a = place_of columns source in
    let b = place_of columns target in
    link_of source 0 ∷ (along_row columns a b ++ (along_column columns (corner a b) b ++ (link_of target 1 ∷ [])))

-- the links of a path as an array of 32 beside their number; what follows them is 0
unfoldable pub path_of : List ℕ → Path
path_of links = record { links = padded 32 0 links; len = length links }

-- the links that a path lists
unfoldable pub links_of : Path → List ℕ
links_of path = take path.len path.links

-- from a node over the links to a node: each link begins where the one before it ends
unfoldable pub Leads : ℕ → ℕ → List ℕ → ℕ → Type 0
Leads columns from [] to = from ≡ to
Leads columns from (link ∷ links) to = (node_of link ≡ from) × Leads columns (end_node columns link) links to
