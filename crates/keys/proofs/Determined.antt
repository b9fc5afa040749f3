-- The keys follow from the model: any two results that the contract allows are equal.
use mathlib.Core.Path.{sym, ◌∙◌}
use Rattle.basics.proofs.Determined.{Determined}
use Rattle.keys.proofs.keys.slacks.Reads as slacks
use Rattle.keys.proofs.keys.slacks.Kinds as slacks_kinds

-- the slack of each flow
pub slacks_determined : Determined 0 slacks_kinds.ps slacks_kinds.r slacks.Post
slacks_determined κs a x y s t p q = p ∙ sym q
