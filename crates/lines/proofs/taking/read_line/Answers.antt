-- `lines::taking::read_line` meets its contract.
use Rattle.std.proofs.Common.{sym, ◌∙◌, ap}
use lib.ListN.{length-replicate}
use Rattle.std.specs.Option.{option_map}
use Rattle.lines.specs.declared.taking.Line.{Line}
use Rattle.lines.proofs.TextLines.{line_counted}
use Rattle.lines.proofs.taking.read_line.Goals as goal

pub returns-in_err-next : goal.returns-in_err-next
returns-in_err-next g c =
    c.from_residual.ensures
    ∙ sym (line_counted c.args.word.now c.args.text.now c.read_line_into.new.numbers _ g.row.N c.args.at _ (length-replicate _ _) c.read_line_into.ensures.read
    ∙ ap (option_map {U = Line g.row.N} (λ next. record { numbers = c.read_line_into.new.numbers; next = next })) c.in_err-next.was)

pub returns : goal.returns
returns g c =
    sym (line_counted c.args.word.now c.args.text.now c.read_line_into.new.numbers _ g.row.N c.args.at _ (length-replicate _ _) c.read_line_into.ensures.read
    ∙ ap (option_map {U = Line g.row.N} (λ next. record { numbers = c.read_line_into.new.numbers; next = next })) c.in_ok-next.was)
