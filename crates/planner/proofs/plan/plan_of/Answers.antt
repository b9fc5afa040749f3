-- `plan_of` takes the case of the definition that the reader says.
use mathlib.Core.Path.{sym, ◌∙◌}
use Rattle.planner.proofs.Planning.{plan_searched, table_searched}
use Rattle.planner.proofs.plan.plan_of.Goals as goal

pub returns-in-Ok : goal.returns-in-Ok
returns-in-Ok c = (
  c.with_packets.ensures
      ∙ plan_searched _ _ _ (sym c.read.ensures ∙ c.in-Ok.is) _ c.judged.ensures _ c.search-answer.ensures.0,
  table_searched _ _ _ (sym c.read.ensures ∙ c.in-Ok.is) _ c.judged.ensures _ c.search-answer.ensures.1,
)
