-- `packets_of` writes one packet behind those before it in each turn of its inner loop, the packets of a flow in each of its outer.
use Rattle.arrays.proofs.Building.{Packing}
use Rattle.arrays.proofs.build.packets_of.Given as goal

abbrev pub invariant-loop-k : goal.invariant-loop-k
invariant-loop-k l = Packing l.numbers l.packets l.f l.k

abbrev pub invariant-loop-f : goal.invariant-loop-f
invariant-loop-f l = Packing l.numbers l.packets l.f 0
