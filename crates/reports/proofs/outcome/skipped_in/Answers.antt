-- `skipped_in` counts the places that hold 4,294,967,295.
use mathlib.Core.Path.{◌∙◌}
use lib.Dec.{eqb}
use borrow.Author.Rules.{rules}
use borrow.Author.Tests.{tests}
use Rattle.std.proofs.lemmas.Iterator.{YieldsList-from_slice}
use Rattle.std.proofs.lemmas.Iterator.Consumers.{YieldsList-from_filter, count_from_yields_List}
use Rattle.std.proofs.lemmas.List.Sums.{length-filter}
use Rattle.packet.specs.Table.{none}
use Rattle.reports.proofs.Reporting.{counted}
use Rattle.reports.proofs.outcome.skipped_in.Goals as goal

pub returns : goal.returns
returns c =
    count_from_yields_List c.filter.result c.count.result c.count.ensures.ran
    (YieldsList-from_filter _ (λ t. eqb t none) (YieldsList-from_slice c.args.times.now cc) c.filter.ensures.closure (λ x r q k. search (rules, tests)))
    ∙ length-filter (λ t. eqb t none) c.args.times.now
    ∙ counted c.args.times.now
