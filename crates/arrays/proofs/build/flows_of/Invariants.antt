-- `flows_of` writes the next flow's numbers behind those of the flows before it in each turn.
use Rattle.arrays.proofs.Building.{Listing}
use Rattle.arrays.proofs.build.flows_of.Given as goal

abbrev pub invariant-loop-f : goal.invariant-loop-f
invariant-loop-f l = Listing l.mesh l.numbers l.flows l.f
