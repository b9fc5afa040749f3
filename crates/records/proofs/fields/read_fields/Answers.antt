-- `records::fields::read_fields` meets its contract: the walk from field to field.
use Rattle.std.proofs.Common.{rules, arith, sym, ◌∙◌}
use borrow.Author.Tests.{tests}
use Rattle.records.proofs.Recording.{left_taken, left_none, left_some, wrong_word, walk_begins, walk_short, walk_long, walk_ends, walk_bad, walk_on}
use Rattle.digits.proofs.Spelling.{number_most}
use Rattle.records.proofs.fields.read_fields.Goals as goal

pub returns-then-ne : goal.returns-then-ne
returns-then-ne c =
    let steps = c.in_ok-next.ensures.steps in
    wrong_word _ _ _ _ _ _ _ steps.0 c.split-fields.ensures.rest
    (left_taken _ _ _ _ _ _ _ _ steps (λ x r q k. search (rules, tests))) (grind (arith, c.ne.ensures, c.if-ne.true))

pub loop-number-init : goal.loop-number-init
loop-number-init c =
    let steps = c.in_ok-next.ensures.steps in
    walk_begins _ _ _ _ _ _ _ steps.0 c.split-fields.ensures.rest
    (left_taken _ _ _ _ _ _ _ _ steps (λ x r q k. search (rules, tests))) c.args.numbers.now (search rules)
    (grind (arith, c.ne.ensures, c.if-ne.false))

pub returns-in_err-next-2 : goal.returns-in_err-next-2
returns-in_err-next-2 c =
    rw c.from_residual-in_err-next-2.ensures
    (walk_short _ _ _ _ _ _ c.loop-number.invariant (omega arith) (left_none _ _ c.in_err-next-2.ensures.steps.0))

pub returns-in_err-number : goal.returns-in_err-number
returns-in_err-number c =
    let steps = c.in_ok-next-2.ensures.steps in
    rw c.from_residual-in_err-number.ensures
    (walk_bad _ _ _ _ _ _ c.loop-number.invariant (omega arith) _ _
    (left_taken _ _ _ _ _ _ _ _ steps (λ x r q k. search (rules, tests)))
    (sym c.read_number.ensures ∙ c.in_err-number.was))

pub overflow_cast-number : goal.overflow_cast-number
overflow_cast-number c = record { fits = omega (arith, number_most _ _ c.in_ok-number.field-0 _ (sym c.read_number.ensures ∙ c.in_ok-number.was)) }

pub loop-number-preserved : goal.loop-number-preserved
loop-number-preserved c =
    let steps = c.in_ok-next-2.ensures.steps in
    walk_on _ _ _ _ _ _ c.loop-number.invariant (omega arith) _ _
    (left_taken _ _ _ _ _ _ _ _ steps (λ x r q k. search (rules, tests))) _
    (sym c.read_number.ensures ∙ c.in_ok-number.was)

pub returns-in-None : goal.returns-in-None
returns-in-None c =
    walk_ends _ _ _ _ _ _ c.loop-number.invariant (omega arith)
    (left_none _ _ c.in-None.ensures.steps.0)

pub returns-in-Some : goal.returns-in-Some
returns-in-Some c =
    walk_long _ _ _ _ _ _ c.loop-number.invariant (omega arith) (left_some _ _ c.in-Some.ensures.steps.0)
