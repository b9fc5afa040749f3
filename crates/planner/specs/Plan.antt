-- From the bytes of a text to the whole answer, and to the output text.
use Rattle.std.specs.Prelude.{Result, Ok, Err, List, [], ℕ, ◌*◌, min, take, replicate}
use Rattle.packet.specs.Packet.{Packet}
use Rattle.model.specs.Flows.{per_flow}
use Rattle.model.specs.Answers.{refused_by}
use Rattle.model.specs.declared.answers.Answer.{Answer}
use Rattle.model.specs.declared.answers.Refusal.TheVariants.{Malformed as Refused}
use Rattle.search.specs.Answering.{answer_of, table_after}
use Rattle.lines.specs.Form.{most_kept}
use Rattle.reader.specs.Reader.{malformed_place, input_of}
use Rattle.printer.specs.Printer.{output_of}
use Rattle.reader.specs.declared.reading.Input.{Input}
use Rattle.reader.specs.declared.reading.Malformed.{Malformed}
use Rattle.planner.specs.Numbered.{packets_for, plan_for}
use Rattle.planner.specs.declared.numbering.Plan.{Plan}

-- the flow numbers that are judged: those of at most 65 flows, which are enough to be refused
unfoldable pub judged_of : Input → List ℕ
judged_of input = take (per_flow * min input.flows most_kept) input.numbers

-- the answer to what a text says: that of the search, or number 1 where it is malformed
unfoldable pub answer_to : Result Input Malformed → List ℕ → Answer
answer_to (Ok input) table = answer_of input.mesh input.pruning input.threshold (judged_of input) table
answer_to (Err why) table = refused_by (Refused (malformed_place why))

-- the lent table afterwards: malformed text leaves it as it was
unfoldable pub table_to : Result Input Malformed → List ℕ → List ℕ
table_to (Ok input) table = table_after input.mesh input.pruning input.threshold (judged_of input) table
table_to (Err why) table = table

-- the packets of what a text says
unfoldable pub packets_to : Result Input Malformed → List Packet
packets_to (Ok input) = packets_for input.mesh (judged_of input)
packets_to (Err why) = []

-- the plan of a text and a lent table
unfoldable pub plan_of : List ℕ → List ℕ → Plan
plan_of text table = plan_for (answer_to (input_of text) table) (packets_to (input_of text))

-- the lent table afterwards
unfoldable pub plan_table : List ℕ → List ℕ → List ℕ
plan_table text table = table_to (input_of text) table

-- the output text of a plan and the table that it left
unfoldable pub printed_of : Plan → List ℕ → List ℕ
printed_of plan table = output_of plan.answer table plan.flow plan.turn

-- what the program prints for a text: it lends 1,024 places
unfoldable pub program_of : List ℕ → List ℕ
program_of text = printed_of (plan_of text (replicate 1024 0)) (plan_table text (replicate 1024 0))
