-- `packets_in` adds up the turns of one flow after the other; 64 flows of at most 16,777,216 packets stay in 32 bits.
use mathlib.Core.Path.{◌≡◌}
use Rattle.basics.specs.Sums.{sum_of}
use Rattle.model.specs.Packets.{turns_in}
use Rattle.model.proofs.sums.packets_in.Given as goal

abbrev pub invariant-loop-period : goal.invariant-loop-period
invariant-loop-period l = l.sum ≡ sum_of (turns_in l.numbers) l.period-index
