-- The plan of a text and the table that it leaves follow from the text and the lent table: any two results that the contract allows,
-- with any two tables left, are equal, wherever the text and the table are kept. So do the lines of a plan and a table.
use mathlib.Core.Path.{◌≡◌, sym, ◌∙◌}
use mathlib.Core.List.{List}
use Prim.Native.Nat.{ℕ}
use contract.Lifetimes.{Lfts}
use denote.Triple.Clauses.{AtExit}
use borrow.Fn.Kinds.{Dens, res_t, ended_of}
use Rattle.printer.specs.ByLine.{lines_of, lines_left}
use Rattle.planner.specs.Plan.{plan_of, plan_table}
use Rattle.planner.proofs.numbering.Plan.lines.Reads as lines_reads
use Rattle.planner.proofs.numbering.Plan.lines.Kinds as lines_kinds
use Rattle.planner.proofs.plan.plan_of.Reads as plan_of_reads
use Rattle.planner.proofs.plan.plan_of.Kinds as plan_of_kinds

-- equal arguments have one plan and one table
same_plan : (ns os t u : List ℕ) → ns ≡ os → t ≡ u → (plan_of ns t ≡ plan_of os u) × (plan_table ns t ≡ plan_table os u)
same_plan ns os t u a b = (cc, cc)

-- the plan and the table left, of any two calls with the same text and lent table
pub plan_of_determined : (κs λs : Lfts 2) (a : Dens κs plan_of_kinds.ps) (b : Dens λs plan_of_kinds.ps)
    (x : (res_t plan_of_kinds.r κs).Denot) (y : (res_t plan_of_kinds.r λs).Denot)
    (s : AtExit (ended_of 2 plan_of_kinds.ps plan_of_kinds.r) κs) (t : AtExit (ended_of 2 plan_of_kinds.ps plan_of_kinds.r) λs)
    → a.0.now ≡ b.0.now → a.1.0.now ≡ b.1.0.now
    → plan_of_reads.Post κs a x s → plan_of_reads.Post λs b y t → (x ≡ y) × (s.1.0.now ≡ t.1.0.now)
plan_of_determined κs λs a b x y s t ns ts p q =
    let same = same_plan _ _ _ _ ns ts in
    (p.0 ∙ same.0 ∙ sym q.0, p.1 ∙ same.1 ∙ sym q.1)

-- the lines that are to come, of any two plans and tables that hold the same
pub lines_determined : (κs λs : Lfts 1) (a : Dens κs lines_kinds.ps) (b : Dens λs lines_kinds.ps)
    (x : (res_t lines_kinds.r κs).Denot) (y : (res_t lines_kinds.r λs).Denot)
    (s : AtExit (ended_of 1 lines_kinds.ps lines_kinds.r) κs) (t : AtExit (ended_of 1 lines_kinds.ps lines_kinds.r) λs)
    → a.0.now ≡ b.0.now → a.1.0.now ≡ b.1.0.now
    → lines_reads.Post κs a x s → lines_reads.Post λs b y t → lines_left x ≡ lines_left y
lines_determined κs λs a b x y s t plan table p q =
    let lines_are : lines_of a.0.now.answer a.1.0.now a.0.now.flow a.0.now.turn ≡ lines_of b.0.now.answer b.1.0.now b.0.now.flow b.0.now.turn = cc in
    p ∙ lines_are ∙ sym q
