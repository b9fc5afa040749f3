-- Every public function's answer follows from its arguments: any two results that its contract allows are equal.
-- `Post` is a contract's `ensures` as a plain claim of the arguments, the result and the arguments at exit.
use mathlib.Core.Path.{sym, ◌∙◌, ap}
use Prim.Native.Nat.{ℕ}
use Rattle.basics.proofs.Determined.{Determined}
use Rattle.time.specs.declared.units.Cycles.{Cycles}
use Rattle.model.proofs.answers.Refusal.number.Reads as number_reads
use Rattle.model.proofs.answers.Refusal.number.Kinds as number_kinds
use Rattle.model.proofs.answers.Refusal.place.Reads as place_reads
use Rattle.model.proofs.answers.Refusal.place.Kinds as place_kinds
use Rattle.model.proofs.answers.Refusal.other.Reads as other_reads
use Rattle.model.proofs.answers.Refusal.other.Kinds as other_kinds
use Rattle.model.proofs.answers.AnswerFromRefusal.from.Reads as from_reads
use Rattle.model.proofs.answers.AnswerFromRefusal.from.Kinds as from_kinds
use Rattle.model.proofs.answers.refused.Reads as refused
use Rattle.model.proofs.answers.refused.Kinds as refused_kinds
use Rattle.model.proofs.flows.flows_in.Reads as flows_in_reads
use Rattle.model.proofs.flows.flows_in.Kinds as flows_in_kinds
use Rattle.model.proofs.flows.number_of.Reads as number_of_lem
use Rattle.model.proofs.flows.number_of.Kinds as number_of_kinds
use Rattle.model.proofs.flows.flow_of.Reads as flow_of_reads
use Rattle.model.proofs.flows.flow_of.Kinds as flow_of_kinds
use Rattle.model.proofs.flows.occupancy_of.Reads as occupancy_of_reads
use Rattle.model.proofs.flows.occupancy_of.Kinds as occupancy_of_kinds
use Rattle.model.proofs.sums.hyper_in.Reads as hyper_in_reads
use Rattle.model.proofs.sums.hyper_in.Kinds as hyper_in_kinds
use Rattle.model.proofs.sums.packets_in.Reads as packets_in_reads
use Rattle.model.proofs.sums.packets_in.Kinds as packets_in_kinds

-- a refusal's number
pub refusal_number_determined : Determined 0 number_kinds.ps number_kinds.r number_reads.Post
refusal_number_determined κs a x y s t p q = p ∙ sym q

-- its place
pub refusal_place_determined : Determined 0 place_kinds.ps place_kinds.r place_reads.Post
refusal_place_determined κs a x y s t p q = p ∙ sym q

-- its other packet
pub refusal_other_determined : Determined 0 other_kinds.ps other_kinds.r other_reads.Post
refusal_other_determined κs a x y s t p q = p ∙ sym q

-- the answer of a refusal, by its conversion
pub from_determined : Determined 0 from_kinds.ps from_kinds.r from_reads.Post
from_determined κs a x y s t p q = p ∙ sym q

-- the same, by name
pub refused_determined : Determined 0 refused_kinds.ps refused_kinds.r refused.Post
refused_determined κs a x y s t p q = p ∙ sym q

-- how many flows there are
pub flows_in_determined : Determined 1 flows_in_kinds.ps flows_in_kinds.r flows_in_reads.Post
flows_in_determined κs a x y s t p q = p ∙ sym q

-- a number of a flow
pub number_of_determined : Determined 1 number_of_kinds.ps number_of_kinds.r number_of_lem.Post
number_of_determined κs a x y s t p q = p ∙ sym q

-- a flow of the list
pub flow_of_determined : Determined 1 flow_of_kinds.ps flow_of_kinds.r flow_of_reads.Post
flow_of_determined κs a x y s t p q = p ∙ sym q

-- the occupancy of a flow
pub occupancy_of_determined : Determined 1 occupancy_of_kinds.ps occupancy_of_kinds.r occupancy_of_reads.Post
occupancy_of_determined κs a x y s t p q = ap {B = Cycles} (λ (n : ℕ). record { 0 = n }) (p ∙ sym q)

-- the hyper-period, or none above the limit
pub hyper_in_determined : Determined 1 hyper_in_kinds.ps hyper_in_kinds.r hyper_in_reads.Post
hyper_in_determined κs a x y s t p q = p ∙ sym q

-- how many packets there are
pub packets_in_determined : Determined 1 packets_in_kinds.ps packets_in_kinds.r packets_in_reads.Post
packets_in_determined κs a x y s t p q = p ∙ sym q
