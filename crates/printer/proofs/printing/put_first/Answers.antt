-- `printer::printing::put_first` meets its contract: the line at the first cursor is put in front.
use mathlib.Core.Path.{◌≡◌, sym, ◌∙◌}
use Rattle.printer.specs.Printer.{table_line, refuse_line, field_text, line_of}
use Rattle.printer.proofs.Pieces.{a_line, first_table, behind_table, first_refuse, behind_refuse}
use Rattle.printer.proofs.printing.put_first.Goals as goal

pub returns-then-prints_table : goal.returns-then-prints_table
unfolding table_line field_text line_of
returns-then-prints_table c =
    let table = sym c.prints_table.ensures ∙ c.if-prints_table.true in
    let line : table_line c.args.output.answer.hyper c.args.output.answer.packets ≡ table_line c.from.result c.from-then-prints_table.result = cc in
    a_line _ _ _ _ _ _ c.requires _ _ _ _ (first_table _ _ _ _ table ∙ line) (behind_table _ table) c.put_line-len.ensures

pub returns : goal.returns
unfolding refuse_line field_text line_of
returns c =
    let none = sym c.prints_table.ensures ∙ c.if-prints_table.false in
    let line : refuse_line c.args.output.answer.number c.args.output.answer.place ≡ refuse_line c.from-2.result c.from-3.result = cc in
    a_line _ _ _ _ _ _ c.requires _ _ _ _ (first_refuse _ _ _ _ none ∙ line) (behind_refuse _ none) c.put_line-len-2.ensures
