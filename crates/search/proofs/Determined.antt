-- The search's answer and the table that it leaves follow from its arguments: any two results that its contract allows, with any two
-- tables left, are equal, wherever the numbers and the table are kept.
use mathlib.Core.Path.{◌≡◌, sym, ◌∙◌}
use mathlib.Core.List.{List}
use Prim.Native.Nat.{ℕ}
use contract.Lifetimes.{Lfts}
use denote.Triple.Clauses.{AtExit}
use borrow.Fn.Kinds.{Dens, res_t, ended_of}
use Rattle.model.specs.declared.flows.Mesh.{Mesh}
use Rattle.search.specs.Answering.{answer_of, table_after}
use Rattle.search.proofs.entry.search.Reads as search
use Rattle.search.proofs.entry.search.Kinds as search_kinds

-- equal arguments have one answer and one table
same_search : (m o : Mesh) (f h g k : ℕ) (ns os t u : List ℕ) → m ≡ o → f ≡ h → g ≡ k → ns ≡ os → t ≡ u
    → (answer_of m f g ns t ≡ answer_of o h k os u) × (table_after m f g ns t ≡ table_after o h k os u)
same_search m o f h g k ns os t u a b c d e = (cc, cc)

-- the answer and the table left, of any two calls with the same mesh, settings, flow numbers and lent table
pub search_determined : (κs λs : Lfts 2) (a : Dens κs search_kinds.ps) (b : Dens λs search_kinds.ps)
    (x : (res_t search_kinds.r κs).Denot) (y : (res_t search_kinds.r λs).Denot)
    (s : AtExit (ended_of 2 search_kinds.ps search_kinds.r) κs) (t : AtExit (ended_of 2 search_kinds.ps search_kinds.r) λs)
    → a.0 ≡ b.0 → a.1.0 ≡ b.1.0 → a.1.1.0 ≡ b.1.1.0
    → a.1.1.1.0.now ≡ b.1.1.1.0.now → a.1.1.1.1.0.now ≡ b.1.1.1.1.0.now
    → search.Post κs a x s → search.Post λs b y t → (x ≡ y) × (s.1.1.1.1.0.now ≡ t.1.1.1.1.0.now)
search_determined κs λs a b x y s t m f g ns ts p q =
    let same = same_search _ _ _ _ _ _ _ _ _ _ m f g ns ts in
    (p.0 ∙ same.0 ∙ sym q.0, p.1 ∙ same.1 ∙ sym q.1)
