-- `next_meeting` is the first higher packet that is met; a packet meets none up to itself.
use mathlib.Core.Path.{◌≡◌}
use mathlib.Core.Bool.{true, false}
use Prim.Native.Nat.{◌+◌}
use borrow.Author.Rules.{rules}
use borrow.Author.Tests.{tests}
use Rattle.std.proofs.lemmas.Iterator.{first_from_Range}
use Rattle.basics.proofs.First.{found_from}
use Rattle.pairs.specs.Scan.{meets_in}
use Rattle.pairs.proofs.Walks.{not_lower}
use Rattle.pairs.proofs.scan.Walk.next_meeting.Goals as goal

pub returns : goal.returns
returns c =
    let met = meets_in c.args.self.flows.now c.args.self.packets.now c.args.self.table.now c.args.a in
    found_from met (c.args.a + 1) c.args.self.packets.now.count c.find.result (not_lower c.args.self.flows.now c.args.self.packets.now c.args.self.table.now c.args.a)
    (first_from_Range _ _ _ _ (λ x. met x ≡ true) (λ x. met x ≡ false) c.find.ensures.ran (λ x q k. search (rules, tests)) (λ x q k. search (rules, tests)))
