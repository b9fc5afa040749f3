-- The numbers of document 01's refusals are 1 to 12: none of them is answered by 0 or 13. A caller's own has any number.
use mathlib.Core.Path.{◌≡◌}
use mathlib.Core.Bool.{true}
use Prim.Native.Nat.{◌≤◌, ◌<◌}
use native.Mathlib.Omega.{arith}
use Rattle.model.specs.Answers.{refusal_number, in_table}
use Rattle.model.specs.declared.answers.Refusal.{Refusal}

-- no number of the table is 0, which is no refusal's
pub number_low : (refusal : Refusal) → in_table refusal ≡ true → 0 < refusal_number refusal
unfolding refusal_number in_table
number_low refusal row = grind arith

-- nor is it above 12
pub number_high : (refusal : Refusal) → in_table refusal ≡ true → refusal_number refusal ≤ 12
unfolding refusal_number in_table
number_high refusal row = grind arith
