-- Every public function's answer follows from its arguments: any two results, or arrays left, that its contract allows are equal.
use mathlib.Core.Path.{◌≡◌, sym, ◌∙◌}
use contract.Lifetimes.{Lfts}
use denote.Triple.Clauses.{AtExit}
use borrow.Fn.Kinds.{Dens, res_t, ended_of}
use Rattle.basics.proofs.Determined.{Determined}
use Rattle.settling.proofs.taking.settle.Reads as settle
use Rattle.settling.proofs.taking.settle.Kinds as settle_kinds
use Rattle.settling.proofs.taking.State.turn_away.Reads as turn_away
use Rattle.settling.proofs.taking.State.turn_away.Kinds as turn_away_kinds
use Rattle.settling.proofs.taking.nothing_taken.Reads as nothing_taken
use Rattle.settling.proofs.taking.nothing_taken.Kinds as nothing_taken_kinds

-- the placed packets once a packet took a time
pub settle_determined : (κs : Lfts 1) (a : Dens κs settle_kinds.ps) (x y : (res_t settle_kinds.r κs).Denot)
    (s t : AtExit (ended_of 1 settle_kinds.ps settle_kinds.r) κs) → settle.Post κs a x s → settle.Post κs a y t → s.0.now ≡ t.0.now
settle_determined κs a x y s t p q = p ∙ sym q

-- the state once a packet was turned away, and what follows, of any two calls with equal arguments
pub turn_away_determined : (κs λs : Lfts 1) (a : Dens κs turn_away_kinds.ps) (b : Dens λs turn_away_kinds.ps)
    (x : (res_t turn_away_kinds.r κs).Denot) (y : (res_t turn_away_kinds.r λs).Denot)
    (s : AtExit (ended_of 1 turn_away_kinds.ps turn_away_kinds.r) κs) (t : AtExit (ended_of 1 turn_away_kinds.ps turn_away_kinds.r) λs)
    → a.0.now ≡ b.0.now → a.1.0 ≡ b.1.0 → a.1.1.0 ≡ b.1.1.0 → a.1.1.1.0 ≡ b.1.1.1.0
    → turn_away.Post κs a x s → turn_away.Post λs b y t → (x ≡ y) × (s.0.now ≡ t.0.now)
turn_away_determined κs λs a b x y s t state at packet threshold p q = (p.1 ∙ (cc) ∙ sym q.1, p.0 ∙ (cc) ∙ sym q.0)

-- what a pass begins with
pub nothing_taken_determined : Determined 0 nothing_taken_kinds.ps nothing_taken_kinds.r nothing_taken.Post
nothing_taken_determined κs a x y s t p q = p ∙ sym q
