-- `records::fields::find` meets its contract.
use Rattle.std.proofs.Common.{rules, ◌+◌, sym, ◌∙◌, ap}
use borrow.Author.Tests.{tests}
use lib.Dec.{eqb}
use Rattle.std.specs.Option.{option_map}
use Rattle.std.proofs.lemmas.Iterator.{YieldsList-from_slice}
use Rattle.std.proofs.lemmas.Iterator.Search.{position_from_yields_List}
use Rattle.std.proofs.lemmas.List.{take_rest}
use Rattle.records.proofs.Places.{place_is}
use Rattle.records.proofs.fields.find.Goals as goal

pub returns-in_err-place : goal.returns-in_err-place
returns-in_err-place c =
    c.from_residual.ensures ∙ sym (ap (option_map (λ k. c.args.from + k)) c.in_err-place.was)
    ∙ place_is _ _ _ _
    (position_from_yields_List (λ x. eqb x c.args.byte) _ _ c.position.result c.position.ensures.ran
    (YieldsList-from_slice _ (c.iter.ensures.rest ∙ take_rest c.args.text.now c.args.from)) (λ x b q k. search (rules, tests)))

pub returns : goal.returns
returns c =
    sym (ap (option_map (λ k. c.args.from + k)) c.in_ok-place.was)
    ∙ place_is _ _ _ _
    (position_from_yields_List (λ x. eqb x c.args.byte) _ _ c.position.result c.position.ensures.ran
    (YieldsList-from_slice _ (c.iter.ensures.rest ∙ take_rest c.args.text.now c.args.from)) (λ x b q k. search (rules, tests)))
