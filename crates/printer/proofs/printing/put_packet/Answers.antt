-- `printer::printing::put_packet` meets its contract: the line at a packet's cursor is put in front.
use mathlib.Core.Path.{◌≡◌, ◌∙◌}
use borrow.Author.Rules.{rules}
use Rattle.printer.specs.Printer.{inject_line, end_line, end_for, field_text, line_of}
use Rattle.printer.proofs.Pieces.{a_line, packet_line, behind_packet, end_line_lem, behind_end}
use Rattle.printer.proofs.printing.put_packet.Goals as goal

pub returns-then-p-answer : goal.returns-then-p-answer
unfolding inject_line field_text line_of
returns-then-p-answer c =
    let flow = c.from-then-p-answer.result in
    let turn = c.from-then-p-answer-2.result in
    let time = c.unwrap_or-time.result in
    let line : inject_line c.args.p flow turn time ≡ inject_line c.from.result flow turn time = cc in
    a_line _ _ _ _ _ _ c.requires _ _ _ _
    (packet_line _ _ _ _ _ c.if-p-answer.true flow turn time (search rules) (search rules) (search rules) ∙ line)
    (behind_packet _ _ c.if-p-answer.true) c.put_line-len.ensures

pub returns : goal.returns
unfolding end_for end_line field_text line_of
returns c =
    let answer = c.args.output.answer in
    let line : end_line answer.passes answer.tries answer.skipped ≡ end_line c.from-2.result answer.tries c.from-3.result = cc in
    a_line _ _ _ _ _ _ c.requires _ _ _ _ (end_line_lem _ _ _ _ _ c.if-p-answer.false ∙ line) (behind_end _ _ c.if-p-answer.false) c.put_line-len-2.ensures
