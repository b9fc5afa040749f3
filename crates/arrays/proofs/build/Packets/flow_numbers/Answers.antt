-- `flow_numbers` reads the flow of each packet in turn.
use mathlib.Core.Path.{◌≡◌, sym, ◌∙◌}
use mathlib.Core.List.{map}
use Prim.Native.Nat.{ℕ}
use native.Mathlib.Omega.{arith}
use borrow.Author.Rules.{rules}
use lib.ListN.{length, get_or, length-map, get_or-map}
use lib.Seq.{ext_get_or}
use Rattle.load.specs.Entries.{no_packet}
use Rattle.load.specs.declared.entries.PacketEntry.{PacketEntry}
use Rattle.arrays.specs.Arrays.{flow_numbers}
use Rattle.arrays.proofs.build.Packets.flow_numbers.Goals as goal

pub returns : goal.returns
unfolding flow_numbers
returns c =
    let of : PacketEntry → ℕ = λ p. p.flow in
    let all = c.args.self.now.all in
    let long : length all ≡ 1024 = search rules in
    ext_get_or 0 c.map.result (map of all) (c.map.ensures.items.long ∙ sym (length-map all of ∙ long))
    (λ i h.
    let called = (c.map.ensures.items.at i no_packet 0 (omega (arith, c.map.ensures.items.long))).2.met in
    let same : get_or c.map.result i 0 ≡ (get_or all i no_packet).flow = search (rules, called) in
    same ∙ sym (get_or-map of all i no_packet))
