-- `records::fields::read_fields` meets its contract: `Walked` holds between two fields.
use lib.ListN.{length}
use Rattle.records.proofs.Recording.{left, Walked}
use Rattle.records.proofs.fields.read_fields.Given as goal

abbrev pub invariant-loop-number : goal.invariant-loop-number
invariant-loop-number l = Walked l.fn.word l.line (length l.fn.numbers) (left l.fields.done l.fields.rest.now) l.number-items l.number-index
