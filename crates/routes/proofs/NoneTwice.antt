-- No link stands twice on a path of two legs: its four parts differ in kind, and along a leg the place moves on.
use mathlib.Core.Path.{◌≡◌, sym, ◌∙◌, ap}
use mathlib.Core.List.{List, [], ◌∷◌, ◌++◌}
use Prim.Native.Nat.{ℕ, zero, suc, ◌+◌, ◌*◌, ◌-◌, ◌≤◌, ◌<◌}
use native.Mathlib.Omega.{arith}
use lib.IntN.{pos}
use lib.Signed.{◌≤ℤ◌}
use Rattle.basics.proofs.Each.{Each, Lacks, Once, each_append, each_map, once_append}
use Rattle.mesh.specs.Node.{place_of, node_at, Inside}
use Rattle.mesh.specs.Link.{link_of, node_of, kind_of, steps, step_of, to_column, to_row, end_of}
use Rattle.routes.specs.Route.{leg}
use Rattle.routes.specs.Growing.{Stays}
use Rattle.mesh.specs.declared.nodes.Place.{Place}
use Rattle.mesh.proofs.Steps.{east, west, south, north, end_column, end_row, back_within}
use Rattle.mesh.proofs.Numbers.{at_place, node_link, kind_link, place_node}
use Rattle.routes.proofs.TwoLegs.{Moves, TwoLegs, links_over}

-- ---- along a leg

-- how far on a place is in the direction of a kind, in a mesh of so many columns and rows
unfoldable on : ℕ → ℕ → ℕ → Place → ℕ
on columns rows kind at =
    at.column * east kind + (columns - at.column) * west kind + (at.row * south kind + (rows - at.row) * north kind)

-- a place so far on and so far back from another is one further on
one_on : (columns rows kind : ℕ) (at : Place) → Moves kind → Inside columns rows at → west kind ≤ at.column → north kind ≤ at.row
    → on columns rows kind (record { column = at.column + east kind - west kind; row = at.row + south kind - north kind }) ≡ on columns rows kind at + 1
unfolding on steps step_of
one_on columns rows zero at m i w n = absurd (omega (arith, m.from_two))
one_on columns rows (suc zero) at m i w n = absurd (omega (arith, m.from_two))
one_on columns rows (suc (suc zero)) at m i w n = omega arith
one_on columns rows (suc (suc (suc zero))) at m i w n = omega (arith, i.column_in)
one_on columns rows (suc (suc (suc (suc zero)))) at m i w n = omega arith
one_on columns rows (suc (suc (suc (suc (suc zero))))) at m i w n = omega (arith, i.row_in)
one_on columns rows (suc (suc (suc (suc (suc (suc kind)))))) at m i w n = absurd (omega (arith, m.to_five))

-- a step of a kind goes one further on
steps_on : (columns rows kind : ℕ) (at : Place) → Moves kind → Inside columns rows at → pos 0 ≤ℤ to_column kind at → pos 0 ≤ℤ to_row kind at
    → on columns rows kind (end_of kind at) ≡ on columns rows kind at + 1
steps_on columns rows kind at m i c r =
    let w = back_within at.column (step_of kind).column c in
    let n = back_within at.row (step_of kind).row r in
    ap (on columns rows kind) (at_place (end_column kind at w) (end_row kind at n)) ∙ one_on columns rows kind at m i w n

-- how far on the place of a link's node is
unfoldable reached : ℕ → ℕ → ℕ → ℕ → ℕ
reached columns rows kind link = on columns rows kind (place_of columns (node_of link))

-- the link of a place is as far on as the place
reached_link : (columns rows kind : ℕ) (at : Place) → kind < 6 → at.column < columns
    → reached columns rows kind (link_of (node_at columns at) kind) ≡ on columns rows kind at
unfolding reached
reached_link columns rows kind at h k =
    ap (λ (n : ℕ). on columns rows kind (place_of columns n)) (node_link (node_at columns at) kind h) ∙ ap (on columns rows kind) (place_node columns at k)

-- every link of a leg is at least as far on as its first place
leg_on : (columns rows kind n : ℕ) (at : Place) → Moves kind → Stays columns rows kind n at
    → Each (λ (l : ℕ). on columns rows kind at ≤ reached columns rows kind l) (leg columns kind n at)
unfolding leg
leg_on columns rows kind zero at m s = tt
leg_on columns rows kind (suc n) at m s = (
  omega (arith, reached_link columns rows kind at m.to_five s.0.column_in),
  each_map (λ (l : ℕ). on columns rows kind (end_of kind at) ≤ reached columns rows kind l) (λ (l : ℕ). on columns rows kind at ≤ reached columns rows kind l)
      (λ l h. omega (arith, steps_on columns rows kind at m s.0 s.1 s.2))
      (leg columns kind n (end_of kind at)) (leg_on columns rows kind n (end_of kind at) m s.3),
)

-- no link stands twice on a leg
leg_once : (columns rows kind n : ℕ) (at : Place) → Moves kind → Stays columns rows kind n at → Once (leg columns kind n at)
unfolding leg
leg_once columns rows kind zero at m s = tt
leg_once columns rows kind (suc n) at m s = (
  each_map (λ (l : ℕ). on columns rows kind (end_of kind at) ≤ reached columns rows kind l) (λ (l : ℕ). link_of (node_at columns at) kind ≡ l → ⊥)
      (λ l h e. omega (arith, ap (reached columns rows kind) e, reached_link columns rows kind at m.to_five s.0.column_in, steps_on columns rows kind at m s.0 s.1 s.2))
      (leg columns kind n (end_of kind at)) (leg_on columns rows kind n (end_of kind at) m s.3),
  leg_once columns rows kind n (end_of kind at) m s.3,
)

-- ---- parts of different kinds

-- every link of a leg has the leg's kind
leg_kind : (columns kind n : ℕ) (at : Place) → kind < 6 → Each (λ (l : ℕ). kind_of l ≡ kind) (leg columns kind n at)
unfolding leg
leg_kind columns kind zero at h = tt
leg_kind columns kind (suc n) at h = (kind_link (node_at columns at) kind h, leg_kind columns kind n (end_of kind at) h)

-- a link of another kind than all of a list does not stand in it
lacks_kind : (kind link : ℕ) (ls : List ℕ) → (kind_of link ≡ kind → ⊥) → Each (λ (l : ℕ). kind_of l ≡ kind) ls → Lacks ls link
lacks_kind kind link ls d e = each_map _ _ (λ l k q. d (ap kind_of q ∙ k)) ls e

-- no link stands twice on the path
pub none_twice : {columns rows source target : ℕ} (legs : TwoLegs columns rows source target) → Once (links_over legs)
unfolding links_over
none_twice {columns} {rows} {source} {target} legs =
    let k = legs.kind in
    let k' = legs.kind' in
    let a = leg columns k legs.count (place_of columns source) in
    let b = leg columns k' legs.count' legs.turn in
    let z = link_of target 1 in
    let in_a = leg_kind columns k legs.count (place_of columns source) legs.moves.to_five in
    let in_b = leg_kind columns k' legs.count' legs.turn legs.moves'.to_five in
    let at_start : kind_of (link_of source 0) ≡ 0 = kind_link source 0 (omega arith) in
    let at_end : kind_of z ≡ 1 = kind_link target 1 (omega arith) in
    let rest = once_append b (z ∷ []) (leg_once columns rows k' legs.count' legs.turn legs.moves' legs.inside') (tt, tt)
    (each_map _ _ (λ l e. ((λ q. omega (arith, ap kind_of q, legs.moves'.from_two)), tt)) b in_b)
    in
    let legs_once = once_append a (b ++ (z ∷ [])) (leg_once columns rows k legs.count (place_of columns source) legs.moves legs.inside) rest
    (each_map _ _ (λ l e. each_append _ b (z ∷ []) (lacks_kind k' l b (λ q. legs.differ (sym e ∙ q)) in_b) ((λ q. omega (arith, ap kind_of q, legs.moves.from_two)), tt)) a in_a)
    in (
      each_append _ a (b ++ (z ∷ [])) (lacks_kind k (link_of source 0) a (λ q. omega (arith, legs.moves.from_two)) in_a)
          (each_append _ b (z ∷ []) (lacks_kind k' (link_of source 0) b (λ q. omega (arith, legs.moves'.from_two)) in_b)
          ((λ q. omega (arith, ap kind_of q)), tt)),
      legs_once,
    )
