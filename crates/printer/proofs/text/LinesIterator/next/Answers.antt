-- `Lines::next` meets its contract: the line at the cursor comes first, and behind all lines none does.
use mathlib.Core.Path.{sym, ◌∙◌, ap}
use native.Mathlib.Omega.{arith}
use borrow.Author.Rules.{rules}
use lib.ListN.{length}
use Rattle.printer.proofs.Pieces.{piece_fits}
use Rattle.printer.proofs.ByLine.{lines_done, line_next}
use Rattle.printer.proofs.text.LinesIterator.next.Goals as goal

pub returns-then-is_done-clause-steps : goal.returns-then-is_done-clause-steps
returns-then-is_done-clause-steps c =
    let none = lines_done _ _ _ _ _ (sym c.is_done.ensures ∙ c.if-is_done.true) in
    (none, none)

pub invariant_of-result : goal.invariant_of-result
invariant_of-result c =
    record { fits = omega (arith, piece_fits _ _ _ _ _ _ _ _ c.put_piece-piece.ensures, c.put_piece-piece.auto.out) }

pub returns-clause-steps : goal.returns-clause-steps
returns-clause-steps c =
    let first = line_next _ _ _ _ _ _ _ _ c.put_piece-piece.ensures (omega arith) (sym c.is_done.ensures ∙ c.if-is_done.false) in
    search rules

pub returns-clause-goes : goal.returns-clause-goes
returns-clause-goes c =
    let shorter = ap length (line_next _ _ _ _ _ _ _ _ c.put_piece-piece.ensures (omega arith) (sym c.is_done.ensures ∙ c.if-is_done.false)) in
    search rules
