-- Claims that hold of every refusal of tests that stand in a row.
use mathlib.Core.Bool.{Bool, true, false}
use Rattle.std.specs.Prelude.{Ok, Err}
use Rattle.std.specs.Result.{result_and}
use Rattle.refusals.specs.Refusals.{Tested, accepted, refuse_if}
use Rattle.model.specs.declared.answers.Refusal.{Refusal}

-- a claim that holds of a refusal and of none holds of it where a test passes
pub refuse_holds : (P : Tested → Type 0) (bad : Bool) (refusal : Refusal) → P (Err refusal) → P accepted → P (refuse_if bad refusal)
unfolding refuse_if
refuse_holds P true refusal p q = p
refuse_holds P false refusal p q = q

-- a claim that holds of two tests holds of the one that decides
pub and_holds : (P : Tested → Type 0) (a b : Tested) → P a → P b → P (result_and a b)
and_holds P (Ok x) b p q = q
and_holds P (Err r) b p q = p
