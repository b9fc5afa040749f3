-- `window_of` reads the time off the table and the occupancy off the flow of the packet.
use mathlib.Core.Path.{refl, ap}
use Rattle.packet.specs.Table.{time_at}
use Rattle.load.specs.declared.entries.FlowEntry.{FlowEntry}
use Rattle.arrays.specs.Arrays.{packet_in}
use Rattle.pairs.proofs.scan.Walk.window_of.Goals as goal

pub returns-clause-start : goal.returns-clause-start
unfolding time_at
returns-clause-start c = refl

pub returns-clause-span : goal.returns-clause-span
unfolding packet_in
returns-clause-span c = ap (λ (r : FlowEntry). r.occupancy) c.flow_among.ensures
