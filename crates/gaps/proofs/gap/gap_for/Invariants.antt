-- `gap_for` goes forward over the placed packets. The invariants of its three loops are `AtTime`, `AtPacket` and `AtLink`.
use Prim.Native.Nat.{◌-◌}
use Rattle.gaps.proofs.Facing.{AtTime, AtPacket, AtLink}
use Rattle.gaps.proofs.gap.gap_for.Given as goal

abbrev pub invariant-loop-link : goal.invariant-loop-link
invariant-loop-link l = AtLink l.traffic l.marks l.taken l.sought.own l.sought.pruning l.sought.begin l.sought.latest l.sought.from l.sought.at l.span (l.j - 1) (l.j - 1) l.t l.other l.end l.path l.link-index

abbrev pub invariant-loop-j : goal.invariant-loop-j
invariant-loop-j l = AtPacket l.traffic l.marks l.taken l.sought.own l.sought.pruning l.sought.begin l.sought.latest l.sought.from l.sought.at l.span l.initial.j l.j l.t

abbrev pub decreases-loop-j : goal.decreases-loop-j
decreases-loop-j l = l.taken.count - l.j

abbrev pub invariant-times : goal.invariant-times
invariant-times l = AtTime l.traffic l.marks l.taken l.sought.own l.sought.pruning l.sought.begin l.sought.latest l.sought.from l.sought.at l.span l.j l.t

abbrev pub decreases-times : goal.decreases-times
decreases-times l = l.taken.count - l.j
