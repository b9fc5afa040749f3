-- Numbers of nodes and links: each way round, where a link of a place ends, and how high they are.
use mathlib.Core.Path.{◌≡◌, ◌∙◌, ap, ap₂}
use mathlib.Core.Bool.{true}
use Prim.Native.Nat.{ℕ, zero, suc, ◌*◌, ◌/◌, ◌≤◌, ◌<◌}
use native.Mathlib.Nat.{add-zero, div-add-mod', mul-le-mul}
use native.Mathlib.Omega.{arith}
use lib.Arith.{digits_div, digits_mod}
use borrow.Author.Tests.{ltb-true}
use Rattle.basics.proofs.Choose.{both_first}
use Rattle.mesh.specs.Node.{place_of, node_at}
use Rattle.mesh.specs.Link.{link_of, all_links, node_of, kind_of, steps, step_of, end_of, end_node, exists}
use Rattle.mesh.specs.declared.nodes.Place.{Place}

-- two places with the same column and the same row are the same
pub at_place : {c c' r r' : ℕ} → c ≡ c' → r ≡ r' → ◌≡◌ {A = Place} (record { column = c; row = r }) (record { column = c'; row = r' })
at_place ec er = ap₂ {C = Place} (λ (c r : ℕ). record { column = c; row = r }) ec er

-- a link begins at its node
pub node_link : (node kind : ℕ) → kind < 6 → node_of (link_of node kind) ≡ node
unfolding node_of link_of
node_link node kind h = omega arith

-- a link has its kind
pub kind_link : (node kind : ℕ) → kind < 6 → kind_of (link_of node kind) ≡ kind
unfolding kind_of link_of
kind_link node kind h = omega arith

-- the node at a node's place is the node
pub node_place : (columns node : ℕ) → node_at columns (place_of columns node) ≡ node
unfolding node_at place_of
node_place columns node = div-add-mod' node columns

-- the place of the node at a place is the place
pub place_node : (columns : ℕ) (at : Place) → at.column < columns → place_of columns (node_at columns at) ≡ at
unfolding node_at place_of
place_node columns at h =
    at_place (digits_mod at.row h) (digits_div at.row h)

-- a link ends at the end of its kind's step from its node's place
pub end_number : (columns node kind : ℕ) → kind < 6 → end_node columns (link_of node kind) ≡ node_at columns (end_of kind (place_of columns node))
unfolding end_node
end_number columns node kind h =
    ap₂ (λ (i n : ℕ). node_at columns (end_of i (place_of columns n))) (kind_link node kind h) (node_link node kind h)

-- a link that begins at a place ends at the end of its kind's step
pub end_link : (columns kind : ℕ) (at : Place) → kind < 6 → at.column < columns
    → end_node columns (link_of (node_at columns at) kind) ≡ node_at columns (end_of kind at)
end_link columns kind at h k =
    end_number columns (node_at columns at) kind h ∙ ap (λ (p : Place). node_at columns (end_of kind p)) (place_node columns at k)

-- the two local kinds end where they begin
pub still_end : (kind : ℕ) (at : Place) → kind < 2 → end_of kind at ≡ at
unfolding steps step_of end_of
still_end zero at h = at_place (add-zero at.column) (add-zero at.row)
still_end (suc zero) at h = at_place (add-zero at.column) (add-zero at.row)
still_end (suc (suc kind)) at h = absurd (omega arith)

-- the number of a link that exists in a mesh of at most 16 columns and 16 rows
pub exists_number : (columns rows link : ℕ) → columns ≤ 16 → rows ≤ 16 → exists columns rows link ≡ true → link < all_links
unfolding exists node_of
exists_number columns rows link h k e =
    let node = ltb-true (link / 6) (columns * rows) (both_first _ _ e) in
    let area : columns * rows ≤ 16 * 16 = mul-le-mul h k in
    omega arith
