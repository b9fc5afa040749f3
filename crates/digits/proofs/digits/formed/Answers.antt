-- `digits::digits::formed` meets its contract: the tests of the length and of a leading zero, then `all` over the bytes.
use borrow.Author.Tests.{tests}
use Rattle.std.proofs.Common.{rules, arith, ◌∙◌, sym, ◌≤◌, length}
use Rattle.std.proofs.lemmas.Grind.{common_steps}
use Rattle.std.proofs.lemmas.Iterator.{YieldsList-from_slice}
use Rattle.std.proofs.lemmas.Iterator.Search.{all_from_yields_List}
use Rattle.std.specs.Char.{is_ascii_digit}
use Rattle.digits.proofs.Spelling.{digits_all, not_sized, zero_led, well_led}
use Rattle.digits.proofs.digits.formed.Goals.{else-zero_first-via-then-zero_first+else-field-gt1, else-zero_first-via-else-zero_first}
use Rattle.digits.proofs.digits.formed.Goals as goal

pub returns-then-not-contains : goal.returns-then-not-contains
returns-then-not-contains c = sym (not_sized _ _ (λ h k. grind (arith, common_steps, c.contains.ensures.cases)))

pub returns-then-field-gt1 : goal.returns-then-field-gt1
returns-then-field-gt1 c = sym (zero_led _ _ c.if-field-gt1.true c.if-zero_first.true)

pub returns : goal.returns
returns c =
    let some : 1 ≤ length c.args.field.now = grind (arith, common_steps, c.contains.ensures.cases) in
    let few : length c.args.field.now ≤ c.args.most = grind (arith, common_steps, c.contains.ensures.cases) in
    all_from_yields_List is_ascii_digit _ _ _ c.all.ensures.ran (YieldsList-from_slice c.args.field.now cc) (λ x b q k. search (rules, tests))
    ∙ digits_all _
    ∙ sym (well_led _ _ some few
    (λ h e.
    elim c.else-zero_first.branch [
      | else-zero_first-via-then-zero_first+else-field-gt1 w ↦ omega arith
      | else-zero_first-via-else-zero_first w ↦ omega arith
    ]))
