-- Paths of two legs, whichever comes first: L-source, a leg, a leg of another kind, target-L, all inside the mesh.
-- Every law of a path is proved here, over the two legs: a routing is shown to be such a path, and has the laws.
-- In order: how many links; each link ends where the next begins; every link exists. That none stands twice is in NoneTwice.antt.
use mathlib.Core.Path.{◌≡◌, refl, sym, ◌∙◌, ap, subst}
use mathlib.Core.Bool.{true}
use mathlib.Core.List.{List, [], ◌∷◌, ◌++◌}
use Prim.Native.Nat.{ℕ, zero, suc, ◌+◌, ◌*◌, ◌≤◌, ◌<◌}
use native.Mathlib.Nat.{mul_comm}
use native.Mathlib.Omega.{arith}
use lib.Arith.{digits_lt}
use lib.IntN.{pos}
use lib.Signed.{◌≤ℤ◌}
use lib.ListN.{length, length-append}
use borrow.Author.Tests.{lt-ltb}
use Rattle.basics.proofs.Each.{Each, each_append}
use Rattle.mesh.specs.Node.{place_of, node_at, Inside}
use Rattle.mesh.specs.Link.{link_of, node_of, steps, step_of, to_column, to_row, end_of, end_node, exists}
use Rattle.routes.specs.Route.{leg, Leads}
use Rattle.routes.specs.Growing.{Stays}
use Rattle.mesh.specs.declared.nodes.Place.{Place}
use Rattle.routes.proofs.Legs.{leg_length}
use Rattle.mesh.proofs.Steps.{west, north, not_below, inside_stays}
use Rattle.mesh.proofs.Numbers.{node_link, kind_link, node_place, place_node, end_number, end_link, still_end}

-- where n steps of a kind end
unfoldable pub ended : ℕ → ℕ → Place → Place
ended kind zero at = at
ended kind (suc n) at = ended kind n (end_of kind at)

-- a kind that leaves its node
pub record Moves (kind : ℕ) : Type 0 where
  pub from_two : 2 ≤ kind
  pub to_five : kind < 6

-- two legs of different kinds that lead inside the mesh from the source to a turn and from there to the target
pub record TwoLegs (columns rows source target : ℕ) : Type 0 where
  pub kind : ℕ
  pub count : ℕ
  pub turn : Place
  pub kind' : ℕ
  pub count' : ℕ
  pub moves : Moves kind
  pub moves' : Moves kind'
  pub differ : kind ≡ kind' → ⊥
  pub inside : Stays columns rows kind count (place_of columns source)
  pub inside' : Stays columns rows kind' count' turn
  pub turns : ended kind count (place_of columns source) ≡ turn
  pub arrives : ended kind' count' turn ≡ place_of columns target

-- the links of the two legs, between L-source and target-L
unfoldable pub links_over : {columns rows source target : ℕ} → TwoLegs columns rows source target → List ℕ
links_over {columns} {rows} {source} {target} legs =
    link_of source 0
    ∷ (leg columns legs.kind legs.count (place_of columns source)
    ++ (leg columns legs.kind' legs.count' legs.turn ++ (link_of target 1 ∷ [])))

-- ---- how many links

-- as many links as steps, and the two local ones
pub long : {columns rows source target : ℕ} (legs : TwoLegs columns rows source target) → length (links_over legs) ≡ legs.count + legs.count' + 2
unfolding links_over
long {columns} {rows} {source} {target} legs =
    let a = leg columns legs.kind legs.count (place_of columns source) in
    let b = leg columns legs.kind' legs.count' legs.turn in
    omega (
      arith,
      length-append a (b ++ (link_of target 1 ∷ [])),
      length-append b (link_of target 1 ∷ []),
      leg_length columns legs.kind legs.count (place_of columns source),
      leg_length columns legs.kind' legs.count' legs.turn,
    )

-- ---- each link ends where the next begins

-- links that lead to a node, and links that lead on from there
leads_append : (columns a b c : ℕ) (xs ys : List ℕ) → Leads columns a xs b → Leads columns b ys c → Leads columns a (xs ++ ys) c
unfolding Leads
leads_append columns a b c [] ys p q = subst (λ (n : ℕ). Leads columns n ys c) (sym p) q
leads_append columns a b c (x ∷ xs) ys p q = (p.0, leads_append columns (end_node columns x) b c xs ys p.1 q)

-- the links of a leg lead from its first node to its last
leg_leads : (columns rows kind n : ℕ) (at : Place) → kind < 6 → Stays columns rows kind n at
    → Leads columns (node_at columns at) (leg columns kind n at) (node_at columns (ended kind n at))
unfolding Leads leg ended
leg_leads columns rows kind zero at h s = refl
leg_leads columns rows kind (suc n) at h s = (
  node_link (node_at columns at) kind h,
  subst (λ (m : ℕ). Leads columns m (leg columns kind n (end_of kind at)) (node_at columns (ended kind n (end_of kind at))))
      (sym (end_link columns kind at h s.0.column_in))
      (leg_leads columns rows kind n (end_of kind at) h s.3),
)

-- a local link leads from its node to its node
local_leads : (columns node kind : ℕ) → kind < 2 → Leads columns node (link_of node kind ∷ []) node
unfolding Leads
local_leads columns node kind h = (
  node_link node kind (omega arith),
  end_number columns node kind (omega arith) ∙ ap (node_at columns) (still_end kind (place_of columns node) h) ∙ node_place columns node,
)

-- from the source to the target, each link beginning where the one before it ends
pub leads : {columns rows source target : ℕ} (legs : TwoLegs columns rows source target) → Leads columns source (links_over legs) target
unfolding links_over
leads {columns} {rows} {source} {target} legs =
    let a = leg columns legs.kind legs.count (place_of columns source) in
    let b = leg columns legs.kind' legs.count' legs.turn in
    let first : Leads columns source a (node_at columns legs.turn) =
    subst (λ (p : Place). Leads columns source a (node_at columns p)) legs.turns
    (subst (λ (n : ℕ). Leads columns n a (node_at columns (ended legs.kind legs.count (place_of columns source)))) (node_place columns source)
    (leg_leads columns rows legs.kind legs.count (place_of columns source) legs.moves.to_five legs.inside))
    in
    let second : Leads columns (node_at columns legs.turn) b target =
    subst (λ (n : ℕ). Leads columns (node_at columns legs.turn) b n)
    (ap (node_at columns) legs.arrives ∙ node_place columns target)
    (leg_leads columns rows legs.kind' legs.count' legs.turn legs.moves'.to_five legs.inside')
    in
    leads_append columns source source target (link_of source 0 ∷ []) (a ++ (b ++ (link_of target 1 ∷ []))) (local_leads columns source 0 (omega arith))
    (leads_append columns source (node_at columns legs.turn) target a (b ++ (link_of target 1 ∷ [])) first
    (leads_append columns (node_at columns legs.turn) target target b (link_of target 1 ∷ []) second (local_leads columns target 1 (omega arith))))

-- ---- every link exists

-- a link whose step stays inside exists
step_exists : (columns rows kind : ℕ) (at : Place) → kind < 6 → Inside columns rows at → Inside columns rows (end_of kind at)
    → pos 0 ≤ℤ to_column kind at → pos 0 ≤ℤ to_row kind at → exists columns rows (link_of (node_at columns at) kind) ≡ true
unfolding exists node_at
step_exists columns rows kind at h i j w n =
    let node : node_of (link_of (node_at columns at) kind) ≡ node_at columns at = node_link (node_at columns at) kind h in
    let below : node_at columns at < columns * rows = subst (λ (m : ℕ). node_at columns at < m) (mul_comm rows columns) (digits_lt i.row_in i.column_in) in
    simp (node, kind_link (node_at columns at) kind h, place_node columns at i.column_in, lt-ltb _ _ below, inside_stays columns rows kind at w n j)

-- the place where steps begin that stay inside is inside
begins_inside : (columns rows kind n : ℕ) (at : Place) → Stays columns rows kind n at → Inside columns rows at
begins_inside columns rows kind zero at s = s
begins_inside columns rows kind (suc n) at s = s.0

-- every link of a leg exists
leg_exists : (columns rows kind n : ℕ) (at : Place) → kind < 6 → Stays columns rows kind n at
    → Each (λ (l : ℕ). exists columns rows l ≡ true) (leg columns kind n at)
unfolding leg
leg_exists columns rows kind zero at h s = tt
leg_exists columns rows kind (suc n) at h s = (
  step_exists columns rows kind at h s.0 (begins_inside columns rows kind n (end_of kind at) s.3) s.1 s.2,
  leg_exists columns rows kind n (end_of kind at) h s.3,
)

-- the place where steps end that stay inside is inside
ends_inside : (columns rows kind n : ℕ) (at : Place) → Stays columns rows kind n at → Inside columns rows (ended kind n at)
unfolding ended
ends_inside columns rows kind zero at s = s
ends_inside columns rows kind (suc n) at s = ends_inside columns rows kind n (end_of kind at) s.3

-- the two local kinds do not go back
no_step : (kind : ℕ) → kind < 2 → (west kind ≡ 0) × (north kind ≡ 0)
unfolding steps step_of
no_step zero h = (refl, refl)
no_step (suc zero) h = (refl, refl)
no_step (suc (suc kind)) h = absurd (omega arith)

-- the local links of a node inside the mesh exist
local_exists : (columns rows node kind : ℕ) → kind < 2 → Inside columns rows (place_of columns node) → exists columns rows (link_of node kind) ≡ true
local_exists columns rows node kind h i =
    let at = place_of columns node in
    let none = no_step kind h in
    subst (λ (n : ℕ). exists columns rows (link_of n kind) ≡ true) (node_place columns node)
    (step_exists columns rows kind at (omega arith) i (subst (Inside columns rows) (sym (still_end kind at h)) i)
    (not_below at.column (step_of kind).column (omega (arith, none))) (not_below at.row (step_of kind).row (omega (arith, none))))

-- every link of the path exists
pub all_exist : {columns rows source target : ℕ} (legs : TwoLegs columns rows source target)
    → Each (λ (l : ℕ). exists columns rows l ≡ true) (links_over legs)
unfolding links_over
all_exist {columns} {rows} {source} {target} legs =
    let there : Inside columns rows (place_of columns target) =
    subst (Inside columns rows) legs.arrives (ends_inside columns rows legs.kind' legs.count' legs.turn legs.inside')
    in (
      local_exists columns rows source 0 (omega arith) (begins_inside columns rows legs.kind legs.count (place_of columns source) legs.inside),
      each_append _ (leg columns legs.kind legs.count (place_of columns source)) _
          (leg_exists columns rows legs.kind legs.count (place_of columns source) legs.moves.to_five legs.inside)
          (each_append _ (leg columns legs.kind' legs.count' legs.turn) _
          (leg_exists columns rows legs.kind' legs.count' legs.turn legs.moves'.to_five legs.inside')
          (local_exists columns rows target 1 (omega arith) there, tt)),
    )
