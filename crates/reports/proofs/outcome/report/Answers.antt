-- `report` writes the table and counts what is not placed; none is 0, some is 13.
use mathlib.Core.Path.{sym, ◌∙◌, ap}
use mathlib.Core.List.{List, ◌++◌}
use Prim.Native.Nat.{ℕ, ◌≤◌}
use native.Mathlib.Omega.{arith}
use lib.ListN.{length, drop}
use Rattle.basics.proofs.First.{found_first}
use Rattle.reports.proofs.Reporting.{count_taken, found_taken, report_none, report_some}
use Rattle.reports.proofs.outcome.report.Goals.{in-None, in-Some}
use Rattle.reports.proofs.outcome.report.Goals as goal

pub overflow_cast-number : goal.overflow_cast-number
overflow_cast-number c =
    let is = sym (found_taken c.args.found.times c.args.n (omega (arith, c.requires.0, c.requires.1))) ∙ sym c.in-Some.ensures in
    omega (arith, (found_first _ _ _ is).0, c.requires.1)

pub returns : goal.returns
returns c =
    let times = c.args.found.times in
    let whole : c.args.n ≤ length times = omega (arith, c.requires.0, c.requires.1) in
    let counted = c.skipped_in-skipped.ensures ∙ count_taken times c.args.n whole in
    let written = ap (λ (xs : List ℕ). xs ++ drop c.args.n c.args.table.now) c.copy_from_slice.ensures.after in
    elim c.match-lowest_in.branch [
      | in-None w ↦
          rw (w.number-is, c.default.ensures.1.1.0)
          (report_none c.args.found c.args.hyper c.args.n _ counted (sym (found_taken times c.args.n whole) ∙ sym w.in-None.ensures), written)
      | in-Some w ↦
          rw (w.number-is, c.default.ensures.1.1.0)
          (report_some c.args.found c.args.hyper c.args.n _ counted _ (sym (found_taken times c.args.n whole) ∙ sym w.in-Some.ensures), written)
    ]
