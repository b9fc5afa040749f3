-- `first_outside` is the first number below the number of packets whose packet strays.
use mathlib.Core.Path.{◌≡◌}
use mathlib.Core.Bool.{true, false}
use native.Mathlib.Omega.{arith}
use borrow.Author.Rules.{rules}
use borrow.Author.Tests.{tests}
use Rattle.std.proofs.lemmas.Iterator.{first_from_Range}
use Rattle.basics.proofs.First.{found_from}
use Rattle.ranges.specs.Ranges.{strays}
use Rattle.ranges.proofs.outside.first_outside.Goals as goal

pub returns : goal.returns
returns c =
    let stray = strays c.args.flows c.args.packets c.args.table.now in
    found_from stray 0 c.args.packets.count c.find.result (λ j h. absurd (omega arith))
    (first_from_Range _ _ _ _ (λ x. stray x ≡ true) (λ x. stray x ≡ false) c.find.ensures.ran (λ x q k. search (rules, tests)) (λ x q k. search (rules, tests)))
