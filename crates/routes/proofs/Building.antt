-- The route as it is built: what each of its two walks asks, and what the path is after each stage.
-- Over the two places and the results of the calls, so that the proof of `route` only names them.
use mathlib.Core.Path.{◌≡◌, ◌∙◌, ap, ap₂}
use mathlib.Core.List.{List, [], ◌∷◌, ◌++◌, append_assoc}
use Prim.Native.Nat.{ℕ, suc, ◌+◌, ◌<◌}
use native.Mathlib.Omega.{arith}
use lib.ListN.{length, length-append}
use Rattle.mesh.specs.Node.{place_of, apart, Ends, Inside}
use Rattle.mesh.specs.Link.{link_of}
use Rattle.routes.specs.Route.{towards, leg, along_row, along_column, corner, route_of, path_of}
use Rattle.routes.specs.Growing.{pushed, walked, Walkable}
use Rattle.mesh.specs.declared.nodes.Place.{Place}
use Rattle.routes.specs.declared.paths.Path.{Path}
use Rattle.mesh.proofs.Bounds.{place_inside, apart_inside}
use Rattle.routes.proofs.Legs.{leg_length, row_stays, column_stays, path_len, grown, gone}

module _ {columns source target : ℕ} (ends : Ends columns source target) {a b : Place} (ea : a ≡ place_of columns source) (eb : b ≡ place_of columns target) where
  -- the source's place is inside
  a_inside : Inside columns 16 a
  a_inside = place_inside columns source a ends.some_columns ends.source_in ea

  -- the target's place is inside
  b_inside : Inside columns 16 b
  b_inside = place_inside columns target b ends.some_columns ends.target_in eb

  -- the place where the path turns is inside
  corner_inside : Inside columns 16 (corner a b)
  unfolding corner
  corner_inside = record { column_in = b_inside.column_in; row_in = a_inside.row_in }

  -- what the walk along the row asks
  pub row_walk : {p : Path} (l : ℕ) {k n : ℕ} → p ≡ path_of (l ∷ []) → k ≡ towards 2 a.column b.column → n ≡ apart a.column b.column
      → Walkable p columns k n a
  row_walk {p} l e ek en =
      let far = apart_inside columns a b ends.few_columns a_inside b_inside in
      record {
        few_columns = ends.few_columns;
        room = omega (arith, path_len p (l ∷ []) e, ends.few_columns);
        inside = rw (ek, en) (row_stays columns 16 a b a_inside b_inside);
      }

  -- the path after the walk along the row
  pub row_walked : {p p' : Path} (l : ℕ) {k n : ℕ} → p ≡ path_of (l ∷ []) → k ≡ towards 2 a.column b.column → n ≡ apart a.column b.column
      → p' ≡ walked p columns k n a → p' ≡ path_of (l ∷ along_row columns a b)
  unfolding along_row
  row_walked {p} {p'} l {k} {n} e ek en e' =
      gone columns k n p p' (l ∷ []) a e (omega (arith, path_len p (l ∷ []) e, (row_walk l e ek en).room)) e'
      ∙ ap₂ (λ (i j : ℕ). path_of (l ∷ leg columns i j a)) ek en

  -- a path along the row has one link for each column that the two places are apart
  row_long : (l : ℕ) → length (l ∷ along_row columns a b) ≡ suc (apart a.column b.column)
  unfolding along_row
  row_long l = ap suc (leg_length columns (towards 2 a.column b.column) (apart a.column b.column) a)

  -- what the walk along the column asks
  pub column_walk : {p : Path} (l : ℕ) {k n : ℕ} → p ≡ path_of (l ∷ along_row columns a b) → k ≡ towards 4 a.row b.row → n ≡ apart a.row b.row
      → Walkable p columns k n (corner a b)
  unfolding corner
  column_walk {p} l e ek en =
      let far = apart_inside columns a b ends.few_columns a_inside b_inside in
      record {
        few_columns = ends.few_columns;
        room = omega (arith, path_len p (l ∷ along_row columns a b) e, row_long l, ends.few_columns);
        inside = rw (ek, en) (column_stays columns 16 (corner a b) b corner_inside b_inside);
      }

  -- the path after the walk along the column
  pub column_walked : {p p' : Path} (l : ℕ) {k n : ℕ} → p ≡ path_of (l ∷ along_row columns a b) → k ≡ towards 4 a.row b.row → n ≡ apart a.row b.row
      → p' ≡ walked p columns k n (corner a b) → p' ≡ path_of (l ∷ (along_row columns a b ++ along_column columns (corner a b) b))
  unfolding along_column corner
  column_walked {p} {p'} l {k} {n} e ek en e' =
      gone columns k n p p' (l ∷ along_row columns a b) (corner a b) e
      (omega (arith, path_len p (l ∷ along_row columns a b) e, (column_walk l e ek en).room)) e'
      ∙ ap₂ (λ (i j : ℕ). path_of (l ∷ (along_row columns a b ++ leg columns i j (corner a b)))) ek en

  -- how many links there are before the last
  before_last : (l : ℕ) → length (l ∷ (along_row columns a b ++ along_column columns (corner a b) b)) ≡ apart a.column b.column + apart a.row b.row + 1
  unfolding along_column corner
  before_last l =
      omega (
        arith,
        length-append (l ∷ along_row columns a b) (along_column columns (corner a b) b),
        row_long l,
        leg_length columns (towards 4 a.row b.row) (apart a.row b.row) (corner a b),
      )

  -- there is room for the last link
  pub last_room : (l : ℕ) → length (l ∷ (along_row columns a b ++ along_column columns (corner a b) b)) < 32
  last_room l = omega (arith, before_last l, apart_inside columns a b ends.few_columns a_inside b_inside, ends.few_columns)

  -- so the path has room for it
  pub path_room : {p : Path} (l : ℕ) → p ≡ path_of (l ∷ (along_row columns a b ++ along_column columns (corner a b) b)) → p.len < 32
  path_room {p} l e = omega (arith, path_len p _ e, last_room l)

  -- the whole route
  pub built : {p p' : Path} {l l' : ℕ} → p ≡ path_of (l ∷ (along_row columns a b ++ along_column columns (corner a b) b)) → p' ≡ pushed p l'
      → l ≡ link_of source 0 → l' ≡ link_of target 1 → p' ≡ path_of (route_of columns source target)
  unfolding route_of
  built {p} {p'} {l} {l'} e e' el el' =
      let all = l ∷ (along_row columns a b ++ along_column columns (corner a b) b) in
      grown p p' all l' e (last_room l) e'
      ∙ ap (λ (ls : List ℕ). path_of (l ∷ ls)) (append_assoc (along_row columns a b) (along_column columns (corner a b) b) (l' ∷ []))
      ∙ ap₂ (λ (x y : ℕ). path_of (x ∷ (along_row columns a b ++ (along_column columns (corner a b) b ++ (y ∷ []))))) el el'
      ∙ ap₂ (λ (p q : Place). path_of (link_of source 0 ∷ (along_row columns p q ++ (along_column columns (corner p q) q ++ (link_of target 1 ∷ []))))) ea eb
