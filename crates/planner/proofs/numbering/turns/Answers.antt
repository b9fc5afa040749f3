-- `turns` stores one turn in each round; those of the packets before p stand in front.
use native.Mathlib.Omega.{arith}
use lib.ListN.{length-set}
use Rattle.std.proofs.lemmas.List.Edits.{fill_by_more}
use Rattle.basics.proofs.Lists.{padded_front}
use Rattle.arrays.specs.Arrays.{packet_in}
use Rattle.planner.proofs.numbering.turns.Goals as goal

pub overflow_cast-turn : goal.overflow_cast-turn
unfolding packet_in
overflow_cast-turn c =
    let few = c.requires.few c.loop-p.p (omega (arith, c.loop-p.invariant.size, c.loop-p-test.true)) in
    rw c.flow_among.ensures (omega (arith, few))

pub loop-p-preserved : goal.loop-p-preserved
unfolding packet_in
loop-p-preserved c = record {
  front = rw c.flow_among.ensures
      (fill_by_more (λ k. (packet_in c.args.model.now.flows c.args.model.now.packets k).turn) c.loop-p.turn-items c.loop-p.p 0
      (omega (arith, c.loop-p.invariant.size, c.loop-p-test.true)) c.loop-p.invariant.front);
  size = simp length-set c.loop-p.invariant.size;
}

pub returns : goal.returns
returns c =
    padded_front 1024 0 (λ p. (packet_in c.args.model.now.flows c.args.model.now.packets p).turn) c.args.model.now.packets.count 0 c.loop-p.turn-items c.loop-p.invariant.size
    (λ k h. c.loop-p.invariant.front k (omega (arith, c.loop-p-test.false, c.loop-p.invariant.size)))
