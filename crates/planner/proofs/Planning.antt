-- The plan of a text by its two cases, well formed and malformed, in the terms of the calls that make it.
use mathlib.Core.Path.{◌≡◌, sym, ◌∙◌, ap}
use mathlib.Core.List.{List, []}
use Prim.Native.Nat.{ℕ, ◌*◌, min}
use lib.ListN.{take}
use Rattle.std.specs.Prelude.{Ok, Err}
use Rattle.model.specs.Flows.{per_flow}
use Rattle.model.specs.Answers.{refused_by}
use Rattle.model.specs.declared.answers.Answer.{Answer}
use Rattle.model.specs.declared.answers.Refusal.{Refusal}
use Rattle.model.specs.declared.answers.Refusal.TheVariants.{Malformed as Refused}
use Rattle.search.specs.Answering.{answer_of, table_after}
use Rattle.lines.specs.Form.{most_kept}
use Rattle.reader.specs.Reader.{malformed_place, input_of}
use Rattle.reader.specs.declared.reading.Input.{Input}
use Rattle.reader.specs.declared.reading.Malformed.{Malformed}
use Rattle.planner.specs.Numbered.{packets_for, plan_for}
use Rattle.planner.specs.Plan.{judged_of, answer_to, table_to, packets_to, plan_of, plan_table}

module _ (text table : List ℕ) where
  -- malformed text: number 1 at its first bad line, and the lent table is untouched
  pub plan_malformed : (why : Malformed) → input_of text ≡ Err why → (refusal : Refusal) → refusal ≡ Refused (malformed_place why)
      → plan_for (refused_by refusal) [] ≡ plan_of text table
  unfolding plan_of answer_to packets_to
  plan_malformed why e refusal r = ap (λ (x : Refusal). plan_for (refused_by x) []) r ∙ sym (rw (e, answer_to, packets_to))

  pub table_malformed : (why : Malformed) → input_of text ≡ Err why → table ≡ plan_table text table
  unfolding plan_table table_to
  table_malformed why e = sym (rw (e, table_to))

  module _ (input : Input) (e : input_of text ≡ Ok input) (n : ℕ) (en : n ≡ per_flow * min input.flows most_kept) where
    -- the numbers that are judged
    judged_are : take n input.numbers ≡ judged_of input
    unfolding judged_of
    judged_are = ap (λ (k : ℕ). take k input.numbers) en

    -- well-formed text: what the search says, with the packets of its model
    pub plan_searched : (answer : Answer) → answer ≡ answer_of input.mesh input.pruning input.threshold (take n input.numbers) table
        → plan_for answer (packets_for input.mesh (take n input.numbers)) ≡ plan_of text table
    unfolding plan_of answer_to packets_to
    plan_searched answer ea =
        ap (λ (a : Answer). plan_for a (packets_for input.mesh (take n input.numbers))) ea
        ∙ ap (λ (l : List ℕ). plan_for (answer_of input.mesh input.pruning input.threshold l table) (packets_for input.mesh l)) judged_are
        ∙ sym (rw (e, answer_to, packets_to))

    -- and the lent table is what the search leaves
    pub table_searched : (after : List ℕ) → after ≡ table_after input.mesh input.pruning input.threshold (take n input.numbers) table → after ≡ plan_table text table
    unfolding plan_table table_to
    table_searched after et =
        et
        ∙ ap (λ (l : List ℕ). table_after input.mesh input.pruning input.threshold l table) judged_are
        ∙ sym (rw (e, table_to))
