-- Every public function's answer follows from its arguments: any two results that its contract allows are equal.
-- `Post` is a contract's `ensures` as a plain claim of the arguments, the result and the arguments at exit.
use mathlib.Core.Path.{sym, ◌∙◌}
use Rattle.basics.proofs.Determined.{Determined}
use Rattle.time.proofs.units.flits_of.Reads as flits_of_reads
use Rattle.time.proofs.units.flits_of.Kinds as flits_of_kinds
use Rattle.time.proofs.units.occupancy.Reads as occupancy
use Rattle.time.proofs.units.occupancy.Kinds as occupancy_kinds
use Rattle.time.proofs.window.overlap.Reads as overlap
use Rattle.time.proofs.window.overlap.Kinds as overlap_kinds

-- the flits of a size
pub flits_of_determined : Determined 0 flits_of_kinds.ps flits_of_kinds.r flits_of_reads.Post
flits_of_determined κs a x y s t p q = p ∙ sym q

-- the cycles of a payload
pub occupancy_determined : Determined 0 occupancy_kinds.ps occupancy_kinds.r occupancy.Post
occupancy_determined κs a x y s t p q = p ∙ sym q

-- whether two windows overlap
pub overlap_determined : Determined 0 overlap_kinds.ps overlap_kinds.r overlap.Post
overlap_determined κs a x y s t p q = p ∙ sym q
