-- The public function's answer follows from its arguments: any two results, and marks left, that its contract allows are equal.
use mathlib.Core.Path.{◌≡◌, sym, ◌∙◌}
use contract.Lifetimes.{Lfts}
use denote.Triple.Clauses.{AtExit}
use borrow.Fn.Kinds.{Dens, res_t, ended_of}
use Rattle.placing.proofs.start.place.Reads as place
use Rattle.placing.proofs.start.place.Kinds as place_kinds

-- where a packet goes, and the marks left
pub place_determined : (κs : Lfts 3) (a : Dens κs place_kinds.ps) (x y : (res_t place_kinds.r κs).Denot)
    (s t : AtExit (ended_of 3 place_kinds.ps place_kinds.r) κs) → place.Post κs a x s → place.Post κs a y t
    → (x ≡ y) × (s.1.1.0.now ≡ t.1.1.0.now)
place_determined κs a x y s t p q = (p.0 ∙ sym q.0, p.1 ∙ sym q.1)
