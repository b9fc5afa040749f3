-- Every test's answer follows from its arguments: any two results that its contract allows are equal.
-- `Post` is a contract's `ensures` as a plain claim of the arguments, the result and the arguments at exit.
use mathlib.Core.Path.{sym, ◌∙◌}
use Rattle.basics.proofs.Determined.{Determined}
use Rattle.limits.proofs.tests.out_of_range.Reads as out_of_range
use Rattle.limits.proofs.tests.out_of_range.Kinds as out_of_range_kinds
use Rattle.limits.proofs.tests.bad_mesh.Reads as bad_mesh_reads
use Rattle.limits.proofs.tests.bad_mesh.Kinds as bad_mesh_kinds
use Rattle.limits.proofs.tests.bad_list.Reads as bad_list_reads
use Rattle.limits.proofs.tests.bad_list.Kinds as bad_list_kinds
use Rattle.limits.proofs.tests.bad_nodes.Reads as bad_nodes_reads
use Rattle.limits.proofs.tests.bad_nodes.Kinds as bad_nodes_kinds
use Rattle.limits.proofs.tests.bad_times.Reads as bad_times_reads
use Rattle.limits.proofs.tests.bad_times.Kinds as bad_times_kinds
use Rattle.limits.proofs.tests.too_long.Reads as too_long_reads
use Rattle.limits.proofs.tests.too_long.Kinds as too_long_kinds

-- whether a number lies outside a range
pub out_of_range_determined : Determined 0 out_of_range_kinds.ps out_of_range_kinds.r out_of_range.Post
out_of_range_determined κs a x y s t p q = p ∙ sym q

-- the test of 2
pub bad_mesh_determined : Determined 0 bad_mesh_kinds.ps bad_mesh_kinds.r bad_mesh_reads.Post
bad_mesh_determined κs a x y s t p q = p ∙ sym q

-- the test of 4
pub bad_list_determined : Determined 1 bad_list_kinds.ps bad_list_kinds.r bad_list_reads.Post
bad_list_determined κs a x y s t p q = p ∙ sym q

-- the test of 5
pub bad_nodes_determined : Determined 1 bad_nodes_kinds.ps bad_nodes_kinds.r bad_nodes_reads.Post
bad_nodes_determined κs a x y s t p q = p ∙ sym q

-- the test of 6
pub bad_times_determined : Determined 1 bad_times_kinds.ps bad_times_kinds.r bad_times_reads.Post
bad_times_determined κs a x y s t p q = p ∙ sym q

-- the test of 7
pub too_long_determined : Determined 1 too_long_kinds.ps too_long_kinds.r too_long_reads.Post
too_long_determined κs a x y s t p q = p ∙ sym q
