-- The arrays of a model follow from its numbers, and the numbers of flows from the packets: any two results that a contract allows are
-- equal, wherever the arguments are kept.
-- `Post` is a contract's `ensures` as a plain claim of the arguments, the result and the arguments at exit.
use mathlib.Core.Path.{◌≡◌, sym, ◌∙◌, ap}
use contract.Lifetimes.{Lfts}
use denote.Triple.Clauses.{AtExit}
use borrow.Fn.Kinds.{Dens, res_t, ended_of}
use Rattle.arrays.specs.Arrays.{flow_numbers}
use Rattle.arrays.specs.declared.build.Packets.{Packets}
use Rattle.arrays.proofs.build.Packets.flow_numbers.Reads as flow_numbers_reads
use Rattle.arrays.proofs.build.Packets.flow_numbers.Kinds as flow_numbers_kinds
use Rattle.arrays.proofs.build.model_of.Reads as model_of
use Rattle.arrays.proofs.build.model_of.Kinds as model_of_kinds

-- the model as arrays, of any two slices that hold the same numbers
pub model_of_determined : (κs λs : Lfts 1) (a : Dens κs model_of_kinds.ps) (b : Dens λs model_of_kinds.ps)
    (x : (res_t model_of_kinds.r κs).Denot) (y : (res_t model_of_kinds.r λs).Denot)
    (s : AtExit (ended_of 1 model_of_kinds.ps model_of_kinds.r) κs)
    (t : AtExit (ended_of 1 model_of_kinds.ps model_of_kinds.r) λs)
    → a.0 ≡ b.0 → a.1.0.now ≡ b.1.0.now
    → model_of.Post κs a x s → model_of.Post λs b y t → x ≡ y
model_of_determined κs λs a b x y s t mesh same p q = p ∙ (cc) ∙ sym q

-- the number of each packet's flow, of any two references to the same packets
pub flow_numbers_determined : (κs λs : Lfts 1) (a : Dens κs flow_numbers_kinds.ps) (b : Dens λs flow_numbers_kinds.ps)
    (x : (res_t flow_numbers_kinds.r κs).Denot) (y : (res_t flow_numbers_kinds.r λs).Denot)
    (s : AtExit (ended_of 1 flow_numbers_kinds.ps flow_numbers_kinds.r) κs)
    (t : AtExit (ended_of 1 flow_numbers_kinds.ps flow_numbers_kinds.r) λs)
    → a.0.now ≡ b.0.now → flow_numbers_reads.Post κs a x s → flow_numbers_reads.Post λs b y t → x ≡ y
flow_numbers_determined κs λs a b x y s t same p q = p ∙ ap (λ (r : Packets). flow_numbers r.all) same ∙ sym q
