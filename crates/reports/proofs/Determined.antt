-- The report and the table that it leaves follow from its arguments: any two results, or tables left, that its contract allows are equal.
use mathlib.Core.Path.{◌≡◌, sym, ◌∙◌}
use contract.Lifetimes.{Lfts}
use denote.Triple.Clauses.{AtExit}
use borrow.Fn.Kinds.{Dens, res_t, ended_of}
use Rattle.reports.proofs.outcome.report.Reads as report
use Rattle.reports.proofs.outcome.report.Kinds as report_kinds

-- the answer and the table left
pub report_determined : (κs : Lfts 1) (a : Dens κs report_kinds.ps) (x y : (res_t report_kinds.r κs).Denot)
    (s t : AtExit (ended_of 1 report_kinds.ps report_kinds.r) κs)
    → report.Post κs a x s → report.Post κs a y t → (x ≡ y) × (s.1.1.1.0.now ≡ t.1.1.1.0.now)
report_determined κs a x y s t p q = (p.0 ∙ sym q.0, p.1 ∙ sym q.1)
