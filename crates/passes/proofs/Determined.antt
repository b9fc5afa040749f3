-- The public function's answer follows from its arguments: any two results that its contract allows are equal in the table's places of
-- packets, the passes and the tries, which are all that anyone reads.
use mathlib.Core.Path.{◌≡◌, sym, ◌∙◌}
use contract.Lifetimes.{Lfts}
use denote.Triple.Clauses.{AtExit}
use borrow.Fn.Kinds.{Dens, res_t, ended_of}
use Rattle.passes.specs.Search.{found_of}
use Rattle.passes.proofs.repeat.rounds.Reads as rounds
use Rattle.passes.proofs.repeat.rounds.Kinds as rounds_kinds

-- what the passes leave, of any two calls with equal arguments
pub rounds_determined : (κs λs : Lfts 1) (a : Dens κs rounds_kinds.ps) (b : Dens λs rounds_kinds.ps)
    (x : (res_t rounds_kinds.r κs).Denot) (y : (res_t rounds_kinds.r λs).Denot)
    (s : AtExit (ended_of 1 rounds_kinds.ps rounds_kinds.r) κs) (t : AtExit (ended_of 1 rounds_kinds.ps rounds_kinds.r) λs)
    → a.0 ≡ b.0 → a.1.0.now ≡ b.1.0.now → a.1.1.0 ≡ b.1.1.0
    → rounds.Post κs a x s → rounds.Post λs b y t → found_of a.1.0.now.count x ≡ found_of b.1.0.now.count y
rounds_determined κs λs a b x y s t list traffic settings p q = p.same ∙ (cc) ∙ sym q.same
