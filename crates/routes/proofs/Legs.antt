-- Legs of a path: how a path by value grows by a leg, how long a leg is, and that a leg between two places stays inside.
-- In order: `pushed` and `walked` on the path of a list; then the steps of a straight leg; then the leg along a row and the
-- leg along a column, which serve every order of the two.
use mathlib.Core.Path.{◌≡◌, refl, sym, ◌∙◌, ap, ap₂}
use mathlib.Core.Bool.{Bool, true, false}
use mathlib.Core.List.{List, [], ◌∷◌, ◌++◌, append_assoc, append-nil}
use Prim.Native.Nat.{ℕ, zero, suc, ◌+◌, ◌*◌, ◌-◌, ◌≤◌, ◌<◌}
use native.Mathlib.Nat.{suc-mul}
use native.Mathlib.Omega.{arith}
use lib.Dec.{leb}
use Rattle.std.specs.Array.{AllOfLen}
use Rattle.std.proofs.lemmas.List.{ext_get_or, get_or-replicate}
use Rattle.basics.specs.Choose.{choose}
use Rattle.basics.specs.Lists.{padded}
use Rattle.basics.proofs.Lists.{padded_push}
use lib.ListN.{length, replicate, length-append}
use borrow.Author.Tests.{leb-true, leb-false}
use Rattle.mesh.specs.Node.{node_at, apart, Inside}
use Rattle.mesh.specs.Link.{link_of, steps, step_of, end_of}
use Rattle.mesh.proofs.Steps.{east, west, south, north, end_column, end_row, not_below}
use Rattle.routes.specs.Route.{towards, leg, path_of}
use Rattle.routes.specs.Growing.{pushed, walked, Stays}
use Rattle.mesh.specs.declared.nodes.Place.{Place}
use Rattle.routes.specs.declared.paths.Path.{Path}

-- ---- a path by value

-- one more link on the path of a list is the path of the list with one more link
pub push_path : (ls : List ℕ) (l : ℕ) → length ls < 32 → pushed (path_of ls) l ≡ path_of (ls ++ (l ∷ []))
unfolding pushed path_of
push_path ls l h =
    ap₂ {C = Path} (λ (links : List ℕ) (len : ℕ). record { links = links; len = len })
    (padded_push 32 0 ls l h) (sym (length-append ls (l ∷ [])))

-- a walk on the path of a list is the path of the list with the leg after it
pub walk_path : (columns kind n : ℕ) (ls : List ℕ) (at : Place) → length ls + n ≤ 32
    → walked (path_of ls) columns kind n at ≡ path_of (ls ++ leg columns kind n at)
unfolding walked leg
walk_path columns kind zero ls at h = ap path_of (sym (append-nil ls))
walk_path columns kind (suc n) ls at h =
    let l = link_of (node_at columns at) kind in
    ap (λ (p : Path). walked p columns kind n (end_of kind at)) (push_path ls l (omega arith))
    ∙ walk_path columns kind n (ls ++ (l ∷ [])) (end_of kind at) (omega (arith, length-append ls (l ∷ [])))
    ∙ ap path_of (append_assoc ls (l ∷ []) (leg columns kind n (end_of kind at)))

-- a leg has as many links as steps
pub leg_length : (columns kind n : ℕ) (at : Place) → length (leg columns kind n at) ≡ n
unfolding leg
leg_length columns kind zero at = refl
leg_length columns kind (suc n) at = ap suc (leg_length columns kind n (end_of kind at))

-- ---- straight legs

-- n steps that go no further than the mesh does stay inside
pub straight : (columns rows kind n : ℕ) (at : Place)
    → n * west kind ≤ at.column → n * north kind ≤ at.row
    → at.column + n * east kind < columns → at.row + n * south kind < rows
    → Stays columns rows kind n at
straight columns rows kind zero at w n e s = record { column_in = omega arith; row_in = omega arith }
straight columns rows kind (suc n) at w o e s =
    let more : (x : ℕ) → suc n * x ≡ n * x + x = suc-mul n in
    let more_west = more (west kind) in
    let more_north = more (north kind) in
    let more_east = more (east kind) in
    let more_south = more (south kind) in
    let w₁ : west kind ≤ at.column = omega arith in
    let n₁ : north kind ≤ at.row = omega arith in
    let column = end_column kind at w₁ in
    let row = end_row kind at n₁ in (
      record { column_in = omega arith; row_in = omega arith },
      not_below at.column (step_of kind).column w₁,
      not_below at.row (step_of kind).row n₁,
      straight columns rows kind n (end_of kind at) (omega arith) (omega arith) (omega arith) (omega arith),
    )

-- what holds of the kind that leads from a towards b and of how far they are apart, from what holds upwards and downwards
pub either_way : (P : ℕ → ℕ → Type 0) (kind a b : ℕ) → (a ≤ b → P kind (b - a)) → (b < a → P (kind + 1) (a - b)) → P (towards kind a b) (apart a b)
unfolding towards apart
either_way P kind a b up down = go (leb a b) refl
  where
    go : (t : Bool) → leb a b ≡ t → P (choose t kind (kind + 1)) (choose t (b - a) (a - b))
    go true e = up (leb-true a b e)
    go false e = down (leb-false a b e)

-- the leg along the row to another column stays inside
pub row_stays : (columns rows : ℕ) (p q : Place) → Inside columns rows p → Inside columns rows q
    → Stays columns rows (towards 2 p.column q.column) (apart p.column q.column) p
unfolding steps step_of
row_stays columns rows p q i j =
    either_way (λ (k n : ℕ). Stays columns rows k n p) 2 p.column q.column
    (λ h. straight columns rows 2 (q.column - p.column) p (omega arith) (omega arith) (omega arith) (omega arith))
    (λ h. straight columns rows 3 (p.column - q.column) p (omega arith) (omega arith) (omega arith) (omega arith))

-- the leg along the column to another row stays inside
pub column_stays : (columns rows : ℕ) (p q : Place) → Inside columns rows p → Inside columns rows q
    → Stays columns rows (towards 4 p.row q.row) (apart p.row q.row) p
unfolding steps step_of
column_stays columns rows p q i j =
    either_way (λ (k n : ℕ). Stays columns rows k n p) 4 p.row q.row
    (λ h. straight columns rows 4 (q.row - p.row) p (omega arith) (omega arith) (omega arith) (omega arith))
    (λ h. straight columns rows 5 (p.row - q.row) p (omega arith) (omega arith) (omega arith) (omega arith))

-- ---- the stages of a route

-- the kind that leads towards a column or a row is that kind or the next
pub towards_near : (kind a b : ℕ) → (kind ≤ towards kind a b) × (towards kind a b ≤ kind + 1)
towards_near kind a b = either_way (λ (k n : ℕ). (kind ≤ k) × (k ≤ kind + 1)) kind a b (λ h. omega arith) (λ h. omega arith)

-- a path says how many links it lists
pub path_len : (p : Path) (ls : List ℕ) → p ≡ path_of ls → p.len ≡ length ls
unfolding path_of
path_len p ls e = ap (λ (q : Path). q.len) e

-- a path of 32 zeros that lists none is the path without links
pub empty_path : {p : Path} → AllOfLen (λ (l : ℕ). l ≡ 0) p.links 32 × p.len ≡ 0 → p ≡ path_of []
unfolding padded path_of
empty_path {p} (zeros, none) =
    ap₂ {C = Path} (λ (links : List ℕ) (len : ℕ). record { links = links; len = len })
    (ext_get_or 0 p.links (replicate 32 0) zeros.long
    (λ i h. let l : i < 32 = omega (arith, h, zeros.long) in zeros.at i 0 l ∙ sym (get_or-replicate 32 i 0 0 l)))
    none

-- the first link on the empty path
pub begun : {d p : Path} (l : ℕ) → AllOfLen (λ (l : ℕ). l ≡ 0) d.links 32 × d.len ≡ 0 → p ≡ pushed d l → p ≡ path_of (l ∷ [])
begun {d} {p} l none e = e ∙ ap (λ (q : Path). pushed q l) (empty_path none) ∙ push_path [] l (omega arith)

-- one more link after those of a list
pub grown : (p p' : Path) (ls : List ℕ) (l : ℕ) → p ≡ path_of ls → length ls < 32 → p' ≡ pushed p l → p' ≡ path_of (ls ++ (l ∷ []))
grown p p' ls l e h e' = e' ∙ ap (λ (q : Path). pushed q l) e ∙ push_path ls l h

-- a walk after the links of a list
pub gone : (columns kind n : ℕ) (p p' : Path) (ls : List ℕ) (at : Place) → p ≡ path_of ls → length ls + n ≤ 32 → p' ≡ walked p columns kind n at
    → p' ≡ path_of (ls ++ leg columns kind n at)
gone columns kind n p p' ls at e h e' = e' ∙ ap (λ (q : Path). walked q columns kind n at) e ∙ walk_path columns kind n ls at h
