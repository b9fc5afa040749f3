-- `lowest_in` is the first place that holds 4,294,967,295.
use mathlib.Core.Path.{◌≡◌}
use mathlib.Core.Bool.{true, false}
use lib.Dec.{eqb}
use borrow.Author.Rules.{rules}
use borrow.Author.Tests.{tests}
use Rattle.std.proofs.lemmas.Iterator.{YieldsList-from_slice, IsFirst-from_position}
use Rattle.packet.specs.Table.{none}
use Rattle.reports.proofs.Reporting.{lowest}
use Rattle.reports.proofs.outcome.lowest_in.Goals as goal

pub returns : goal.returns
returns c =
    lowest c.args.times.now c.position.result
    (IsFirst-from_position _ _ _ (λ t. eqb t none ≡ true) (λ t. eqb t none ≡ false) c.position.ensures.ran (YieldsList-from_slice c.args.times.now cc) (λ x q k. search (rules, tests)) (λ x q k. search (rules, tests)))
