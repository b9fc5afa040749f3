-- Every public function's answer follows from its arguments: any two results that its contract allows are equal.
use mathlib.Core.Path.{◌≡◌, sym, ◌∙◌}
use contract.Lifetimes.{Lfts}
use denote.Triple.Clauses.{AtExit}
use borrow.Fn.Kinds.{Dens, res_t, ended_of}
use Rattle.basics.proofs.Determined.{Determined}
use Rattle.routes.proofs.paths.Path.listed.Reads as listed
use Rattle.routes.proofs.paths.Path.listed.Kinds as listed_kinds
use Rattle.routes.proofs.paths.route.Reads as route
use Rattle.routes.proofs.paths.route.Kinds as route_kinds
use Rattle.routes.proofs.sharing.share.Reads as share
use Rattle.routes.proofs.sharing.share.Kinds as share_kinds

-- the path between two nodes
pub route_determined : Determined 0 route_kinds.ps route_kinds.r route.Post
route_determined κs a x y s t p q = p ∙ sym q

-- whether two paths share a link
pub share_determined : Determined 0 share_kinds.ps share_kinds.r share.Post
share_determined κs a x y s t p q = p ∙ sym q

-- the links that a path lists
pub listed_determined : (κs : Lfts 1) (a : Dens κs listed_kinds.ps) (x y : (res_t listed_kinds.r κs).Denot)
    (s t : AtExit (ended_of 1 listed_kinds.ps listed_kinds.r) κs) → listed.Post κs a x s → listed.Post κs a y t → x.now ≡ y.now
listed_determined κs a x y s t p q = p ∙ sym q
