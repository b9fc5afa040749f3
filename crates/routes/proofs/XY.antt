-- The XY path as a path of two legs, and with it the laws of a path that a reader checks it by:
-- it begins at L-source, ends at target-L, has m + 2 links and never more than 32, each link ends where the next begins,
-- every link exists in the mesh and has a number below 1,536, and no link stands twice.
use mathlib.Core.Path.{◌≡◌, refl, sym, ◌∙◌, ap, subst}
use mathlib.Core.Bool.{true}
use mathlib.Core.List.{List, [], ◌∷◌, ◌++◌, append_assoc}
use Prim.Native.Nat.{ℕ, zero, suc, ◌+◌, ◌*◌, ◌-◌, ◌/◌, ◌%◌, ◌≤◌, ◌<◌}
use native.Mathlib.Nat.{zero-mul, suc-mul, mod-lt, div-lt_iff_lt-mul, mul_comm}
use native.Mathlib.Omega.{arith}
use lib.ListN.{length, get_or, length-append}
use lib.Seq.{get_or_at}
use Rattle.basics.proofs.Each.{Each, Once, each_at, once_at}
use Rattle.mesh.specs.Node.{place_of, apart, distance_of, Inside}
use Rattle.mesh.specs.Link.{link_of, all_links, steps, step_of, end_of, exists}
use Rattle.routes.specs.Route.{towards, along_row, along_column, corner, route_of, Leads}
use Rattle.mesh.specs.declared.nodes.Place.{Place}
use Rattle.mesh.proofs.Bounds.{apart_lt}
use Rattle.routes.proofs.Legs.{either_way, row_stays, column_stays, towards_near}
use Rattle.mesh.proofs.Numbers.{at_place, exists_number}
use Rattle.mesh.proofs.Steps.{east, west, south, north, end_column, end_row}
use Rattle.routes.proofs.TwoLegs.{TwoLegs, ended, links_over, long, leads, all_exist}
use Rattle.routes.proofs.NoneTwice.{none_twice}

-- two nodes of a mesh
pub record Nodes (columns rows source target : ℕ) : Type 0 where
  pub some_columns : 0 < columns
  pub few_columns : columns ≤ 16
  pub few_rows : rows ≤ 16
  pub source_in : source < columns * rows
  pub target_in : target < columns * rows

-- ---- where a straight leg ends

-- no step of a kind moves nothing
unmoved : (x a b : ℕ) → x ≡ x + 0 * a - 0 * b
unmoved x a b = omega (arith, zero-mul a, zero-mul b)

-- n steps of a kind end that many steps on
ended_at : (kind n : ℕ) (at : Place) → n * west kind ≤ at.column → n * north kind ≤ at.row
    → ended kind n at ≡ record { column = at.column + n * east kind - n * west kind; row = at.row + n * south kind - n * north kind }
unfolding ended
ended_at kind zero at w o = at_place (unmoved at.column (east kind) (west kind)) (unmoved at.row (south kind) (north kind))
ended_at kind (suc n) at w o =
    let more : (x : ℕ) → suc n * x ≡ n * x + x = suc-mul n in
    let more_west = more (west kind) in
    let more_north = more (north kind) in
    let more_east = more (east kind) in
    let more_south = more (south kind) in
    let column = end_column kind at (omega arith) in
    let row = end_row kind at (omega arith) in
    ended_at kind n (end_of kind at) (omega arith) (omega arith)
    ∙ at_place (omega arith) (omega arith)

-- the leg along the row ends at the corner
row_ends : (p q : Place) → ended (towards 2 p.column q.column) (apart p.column q.column) p ≡ corner p q
unfolding corner steps step_of
row_ends p q =
    either_way (λ (k n : ℕ). ended k n p ≡ corner p q) 2 p.column q.column
    (λ h. ended_at 2 (q.column - p.column) p (omega arith) (omega arith) ∙ at_place (omega arith) (omega arith))
    (λ h. ended_at 3 (p.column - q.column) p (omega arith) (omega arith) ∙ at_place (omega arith) (omega arith))

-- the leg along the column ends in the other's row
column_ends : (p q : Place) → ended (towards 4 p.row q.row) (apart p.row q.row) p ≡ record { column = p.column; row = q.row }
unfolding steps step_of
column_ends p q =
    either_way (λ (k n : ℕ). ended k n p ≡ record { column = p.column; row = q.row }) 4 p.row q.row
    (λ h. ended_at 4 (q.row - p.row) p (omega arith) (omega arith) ∙ at_place (omega arith) (omega arith))
    (λ h. ended_at 5 (p.row - q.row) p (omega arith) (omega arith) ∙ at_place (omega arith) (omega arith))

-- ---- the XY path is a path of two legs

-- the place of a node of the mesh is inside it
node_inside : (columns rows node : ℕ) → 0 < columns → node < columns * rows → Inside columns rows (place_of columns node)
unfolding place_of
node_inside columns rows node h k = record {
  column_in = mod-lt node h;
  row_in = (div-lt_iff_lt-mul h).1 (subst (λ (n : ℕ). node < n) (mul_comm columns rows) k);
}

-- the two legs of an XY path: along the row, then along the column
xy : (columns rows source target : ℕ) → Nodes columns rows source target → TwoLegs columns rows source target
unfolding corner
xy columns rows source target nodes =
    let a = place_of columns source in
    let b = place_of columns target in
    let ia = node_inside columns rows source nodes.some_columns nodes.source_in in
    let ib = node_inside columns rows target nodes.some_columns nodes.target_in in
    let ic : Inside columns rows (corner a b) = record { column_in = ib.column_in; row_in = ia.row_in } in
    let k = towards_near 2 a.column b.column in
    let k' = towards_near 4 a.row b.row in
    record {
      kind = towards 2 a.column b.column;
      count = apart a.column b.column;
      turn = corner a b;
      kind' = towards 4 a.row b.row;
      count' = apart a.row b.row;
      moves = record { from_two = omega arith; to_five = omega arith };
      moves' = record { from_two = omega arith; to_five = omega arith };
      differ = λ e. omega arith;
      inside = row_stays columns rows a b ia ib;
      inside' = column_stays columns rows (corner a b) b ic ib;
      turns = row_ends a b;
      arrives = column_ends (corner a b) b;
    }

-- ---- the laws of the XY path

module _ (columns rows source target : ℕ) (nodes : Nodes columns rows source target) where
  -- the path is that of its two legs
  over : route_of columns source target ≡ links_over (xy columns rows source target nodes)
  unfolding route_of links_over xy along_row along_column corner
  over = refl

  -- it has m + 2 links
  pub route_length : length (route_of columns source target) ≡ distance_of columns source target + 2
  unfolding xy distance_of place_of
  route_length = ap length over ∙ long (xy columns rows source target nodes)

  -- it has never more than 32 links
  pub route_short : length (route_of columns source target) ≤ 32
  unfolding distance_of place_of
  route_short =
      let ia = node_inside columns rows source nodes.some_columns nodes.source_in in
      let ib = node_inside columns rows target nodes.some_columns nodes.target_in in
      omega (
        arith,
        route_length,
        nodes.few_columns,
        nodes.few_rows,
        apart_lt (source % columns) (target % columns) columns ia.column_in ib.column_in,
        apart_lt (source / columns) (target / columns) rows ia.row_in ib.row_in,
      )

  -- it begins at L-source
  pub route_begins : get_or (route_of columns source target) 0 0 ≡ link_of source 0
  unfolding route_of
  route_begins = refl

  -- it ends at target-L
  pub route_ends : get_or (route_of columns source target) (distance_of columns source target + 1) 0 ≡ link_of target 1
  unfolding route_of
  route_ends =
      let a = place_of columns source in
      let b = place_of columns target in
      let before = link_of source 0 ∷ (along_row columns a b ++ along_column columns (corner a b) b) in
      let whole : route_of columns source target ≡ before ++ (link_of target 1 ∷ []) =
      ap (λ (ls : List ℕ). link_of source 0 ∷ ls) (sym (append_assoc (along_row columns a b) (along_column columns (corner a b) b) (link_of target 1 ∷ [])))
      in
      ap (λ (ls : List ℕ). get_or ls (distance_of columns source target + 1) 0) whole
      ∙ get_or_at before (link_of target 1) [] 0 (distance_of columns source target + 1)
      (omega (arith, route_length, ap length whole, length-append before (link_of target 1 ∷ [])))

  -- each link ends where the next begins, from the source to the target
  pub route_leads : Leads columns source (route_of columns source target) target
  route_leads = subst (λ (ls : List ℕ). Leads columns source ls target) (sym over) (leads (xy columns rows source target nodes))

  -- every link of it exists in the mesh
  pub route_exists : (i : ℕ) → i < length (route_of columns source target) → exists columns rows (get_or (route_of columns source target) i 0) ≡ true
  route_exists i h =
      each_at (λ (l : ℕ). exists columns rows l ≡ true) (route_of columns source target)
      (subst (Each (λ (l : ℕ). exists columns rows l ≡ true)) (sym over) (all_exist (xy columns rows source target nodes))) i h

  -- the numbers of its links are below 1,536
  pub route_numbers : (i : ℕ) → i < length (route_of columns source target) → get_or (route_of columns source target) i 0 < all_links
  route_numbers i h = exists_number columns rows _ nodes.few_columns nodes.few_rows (route_exists i h)

  -- no link stands on it twice
  pub route_once : (i j : ℕ) → i < j → j < length (route_of columns source target)
      → get_or (route_of columns source target) i 0 ≡ get_or (route_of columns source target) j 0 → ⊥
  route_once = once_at (route_of columns source target) (subst Once (sym over) (none_twice (xy columns rows source target nodes)))
