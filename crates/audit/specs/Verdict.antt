-- The check as the code makes it, from the two walks over the packets in the arrays of a model.
use Rattle.std.specs.Prelude.{Result, List, ℕ, ltb, length}
use Rattle.std.specs.Result.{result_and}
use Rattle.basics.specs.First.{found}
use Rattle.refusals.specs.Refusals.{refuse_if}
use Rattle.arrays.specs.declared.build.Model.{Model}
use Rattle.model.specs.declared.answers.Answer.{Answer}
use Rattle.model.specs.declared.answers.Refusal.{Refusal}
use Rattle.model.specs.declared.answers.Refusal.TheVariants.{ShortTable}
use Rattle.audit.specs.Check.{verdict_by}
use Rattle.ranges.specs.Ranges.{strays}
use Rattle.pairs.specs.Scan.{first_pair}

-- the check from 10 on, of the packets in the arrays
unfoldable pub verdict_in : Model → List ℕ → Result Answer Refusal
verdict_in model table =
    result_and (refuse_if (ltb (length table) model.packets.count) ShortTable)
    (verdict_by model.hyper model.packets.count (found (strays model.flows model.packets table) model.packets.count) (first_pair model.flows model.packets table))
