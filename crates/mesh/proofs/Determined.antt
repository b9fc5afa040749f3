-- Every public function's answer follows from its arguments: any two results that its contract allows are equal.
use mathlib.Core.Path.{sym, ◌∙◌}
use Rattle.basics.proofs.Determined.{Determined}
use Rattle.mesh.proofs.nodes.place_of.Reads as place_of
use Rattle.mesh.proofs.nodes.place_of.Kinds as place_of_kinds
use Rattle.mesh.proofs.nodes.node_at.Reads as node_at_reads
use Rattle.mesh.proofs.nodes.node_at.Kinds as node_at_kinds
use Rattle.mesh.proofs.nodes.far.Reads as far
use Rattle.mesh.proofs.nodes.far.Kinds as far_kinds
use Rattle.mesh.proofs.nodes.distance.Reads as distance
use Rattle.mesh.proofs.nodes.distance.Kinds as distance_kinds
use Rattle.mesh.proofs.links.link_of.Reads as link_of_reads
use Rattle.mesh.proofs.links.link_of.Kinds as link_of_kinds
use Rattle.mesh.proofs.links.end_of.Reads as end_of_lem
use Rattle.mesh.proofs.links.end_of.Kinds as end_of_kinds

-- the place of a node
pub place_of_determined : Determined 0 place_of_kinds.ps place_of_kinds.r place_of.Post
place_of_determined κs a x y s t p q = p ∙ sym q

-- the node at a place
pub node_at_determined : Determined 0 node_at_kinds.ps node_at_kinds.r node_at_reads.Post
node_at_determined κs a x y s t p q = p ∙ sym q

-- how far two columns or rows are apart
pub far_determined : Determined 0 far_kinds.ps far_kinds.r far.Post
far_determined κs a x y s t p q = p ∙ sym q

-- the distance of two nodes
pub distance_determined : Determined 0 distance_kinds.ps distance_kinds.r distance.Post
distance_determined κs a x y s t p q = p ∙ sym q

-- a link's number
pub link_of_determined : Determined 0 link_of_kinds.ps link_of_kinds.r link_of_reads.Post
link_of_determined κs a x y s t p q = p ∙ sym q

-- where a link ends
pub end_of_determined : Determined 0 end_of_kinds.ps end_of_kinds.r end_of_lem.Post
end_of_determined κs a x y s t p q = p ∙ sym q
