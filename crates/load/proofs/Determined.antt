-- The public functions' answers follow from their arguments: what any two results that a contract allows refer to is equal.
use mathlib.Core.Path.{◌≡◌, sym, ◌∙◌}
use contract.Lifetimes.{Lfts}
use denote.Triple.Clauses.{AtExit}
use borrow.Fn.Kinds.{Dens, res_t, ended_of}
use Rattle.load.proofs.entries.PacketEntry.flow_among.Reads as flow_among
use Rattle.load.proofs.entries.PacketEntry.flow_among.Kinds as flow_among_kinds
use Rattle.load.proofs.traffic.Traffic.path.Reads as path
use Rattle.load.proofs.traffic.Traffic.path.Kinds as path_kinds

-- the links of a flow's path
pub path_determined : (κs : Lfts 1) (a : Dens κs path_kinds.ps) (x y : (res_t path_kinds.r κs).Denot)
    (s t : AtExit (ended_of 1 path_kinds.ps path_kinds.r) κs) → path.Post κs a x s → path.Post κs a y t → x.now ≡ y.now
path_determined κs a x y s t p q = p ∙ sym q

-- the flow of a packet
pub flow_among_determined : (κs : Lfts 1) (a : Dens κs flow_among_kinds.ps) (x y : (res_t flow_among_kinds.r κs).Denot)
    (s t : AtExit (ended_of 1 flow_among_kinds.ps flow_among_kinds.r) κs) → flow_among.Post κs a x s → flow_among.Post κs a y t → x.now ≡ y.now
flow_among_determined κs a x y s t p q = p ∙ sym q
