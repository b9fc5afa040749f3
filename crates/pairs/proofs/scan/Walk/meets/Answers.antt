-- `meets` compares windows before links; a time in range is over by 16,777,216.
use mathlib.Core.Path.{sym, ◌∙◌}
use native.Mathlib.Omega.{arith}
use Rattle.arrays.specs.Arrays.{packet_in}
use Rattle.pairs.proofs.Walks.{over_soon, not_overlapping, overlapping}
use Rattle.pairs.proofs.scan.Walk.meets.Goals as goal

pub overlap-requires : goal.overlap-requires
overlap-requires c =
    let over = over_soon c.args.self.flows.now c.args.self.packets.now c.args.self.table.now c.args.self.timely in
    (omega (arith, c.window_of.ensures.start, c.window_of.ensures.span, over c.args.a (omega (arith, c.requires.0, c.requires.1))), omega (arith, c.window_of-2.ensures.start, c.window_of-2.ensures.span, over c.args.b c.requires.1))

pub returns-then-overlap : goal.returns-then-overlap
unfolding packet_in
returns-then-overlap c =
    let same = sym c.overlap.ensures ∙ c.if-overlap.true in
    let shared = c.share.ensures in
    (rw (c.flow_among-f.ensures, c.flow_among-g.ensures) at shared) ∙ sym (overlapping c.args.self.flows.now c.args.self.packets.now c.args.self.table.now c.args.a c.args.b c.requires.0 (rw (c.window_of.ensures.start, c.window_of.ensures.span, c.window_of-2.ensures.start, c.window_of-2.ensures.span) at same))

pub returns-else-overlap : goal.returns-else-overlap
returns-else-overlap c =
    let same = sym c.overlap.ensures ∙ c.if-overlap.false in
    c.if-overlap.false ∙ sym (not_overlapping c.args.self.flows.now c.args.self.packets.now c.args.self.table.now c.args.a c.args.b (rw (c.window_of.ensures.start, c.window_of.ensures.span, c.window_of-2.ensures.start, c.window_of-2.ensures.span) at same))
