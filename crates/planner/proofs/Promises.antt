-- What the program keeps: the pieces of a plan, and the lines that it writes, are the output text, and 65 flows are enough to be refused.
use mathlib.Core.Path.{◌≡◌, refl, sym, ◌∙◌, ap}
use mathlib.Core.Bool.{true}
use mathlib.Core.List.{List}
use Prim.Native.Nat.{ℕ, ◌+◌}
use Rattle.std.specs.Prelude.{Result, Ok, Err}
use Rattle.std.specs.Result.{result_and}
use Rattle.model.specs.Answers.{answer_by}
use Rattle.limits.specs.Limits.{bad_mesh, bad_list}
use Rattle.refusals.specs.Refusals.{Tested, refuse_if, refusal_of}
use Rattle.model.specs.declared.answers.Refusal.{Refusal}
use Rattle.model.specs.declared.answers.Refusal.TheVariants.{BadMesh, BadList, ShortTable}
use Rattle.model.specs.declared.flows.Mesh.{Mesh}
use Rattle.model.specs.Packets.{packets_of}
use Rattle.search.specs.Answering.{settings_refusal, bad_table, search_refusal, search_of, found_answer, answer_of}
use Rattle.printer.specs.Printer.{pieces_of}
use Rattle.printer.specs.declared.printing.Cursor.TheVariants.{First}
use Rattle.printer.proofs.Pieces.{all_pieces}
use Rattle.std.specs.List.{concat}
use Rattle.printer.specs.ByLine.{lines_of}
use Rattle.printer.proofs.ByLine.{all_lines}
use Rattle.planner.specs.Plan.{printed_of}
use Rattle.planner.specs.declared.numbering.Plan.{Plan}

-- the pieces of a plan, one after the other from the first, are its output text
pub program_prints : (plan : Plan) (table : List ℕ)
    → pieces_of plan.answer table plan.flow plan.turn (plan.answer.packets + 2) First ≡ printed_of plan table
unfolding printed_of
program_prints plan table = all_pieces plan.answer table plan.flow plan.turn

-- what the program writes: the lines of a plan, joined, are its output text
pub program_lines : (plan : Plan) (table : List ℕ) → concat (lines_of plan.answer table plan.flow plan.turn) ≡ printed_of plan table
unfolding printed_of
program_lines plan table = all_lines plan.answer table plan.flow plan.turn

-- ---- a bad list of flows

module _ (mesh : Mesh) (f g : ℕ) where
  -- what is refused before the list is looked at, else number 4
  unfoldable up_to_four : Tested
  up_to_four = result_and (refuse_if (bad_mesh mesh) BadMesh) (result_and (settings_refusal f g) (Err BadList))

  -- what is tested behind a refusal is not asked
  stands : {X : Type 0} (a b : Tested) (r : Refusal) (x y : Result X Refusal)
      → result_and {T = Unit {0}} (result_and a (result_and b (Err r))) x ≡ result_and {T = Unit {0}} (result_and a (result_and b (Err r))) y
  stands (Ok u) (Ok v) r x y = refl
  stands (Ok u) (Err q) r x y = refl
  stands (Err q) b r x y = refl

  -- and the refusal itself is what is left
  ends : (a b later : Tested) (r : Refusal) → result_and {T = Unit {0}} (result_and a (result_and b (Err r))) later ≡ result_and a (result_and b (Err r))
  ends (Ok u) (Ok v) later r = refl
  ends (Ok u) (Err q) later r = refl
  ends (Err q) b later r = refl

  module _ (numbers table : List ℕ) (bad : bad_list numbers ≡ true) where
    -- nothing behind the list is asked
    list_decides : refusal_of mesh (settings_refusal f g) numbers ≡ up_to_four
    unfolding refusal_of up_to_four refuse_if
    list_decides = rw bad

    -- nor is the lent table
    list_refuses : search_refusal mesh f g numbers table ≡ up_to_four
    unfolding search_refusal up_to_four
    list_refuses =
        ap (λ (t : Tested). result_and t (refuse_if (bad_table numbers table) ShortTable)) list_decides
        ∙ ends (refuse_if (bad_mesh mesh) BadMesh) (settings_refusal f g) (refuse_if (bad_table numbers table) ShortTable) BadList

    -- so the answer is that refusal, whatever the search would find
    four_answers : answer_of mesh f g numbers table ≡ answer_by (result_and up_to_four (Err BadList))
    unfolding answer_of up_to_four
    four_answers =
        ap (λ (t : Tested). answer_by (result_and t (Ok (found_answer numbers (packets_of mesh numbers) (search_of (packets_of mesh numbers) f g))))) list_refuses
        ∙ ap answer_by (stands (refuse_if (bad_mesh mesh) BadMesh) (settings_refusal f g) BadList (Ok (found_answer numbers (packets_of mesh numbers) (search_of (packets_of mesh numbers) f g))) (Err BadList))

-- of more flows than 64 the answer is the same whichever are kept
pub sixty_five_enough : (mesh : Mesh) (f g : ℕ) (some all table : List ℕ) → bad_list some ≡ true → bad_list all ≡ true
    → answer_of mesh f g some table ≡ answer_of mesh f g all table
sixty_five_enough mesh f g some all table p q = four_answers mesh f g some table p ∙ sym (four_answers mesh f g all table q)
