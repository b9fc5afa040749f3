-- The tests of refusals 2 and 4 to 7, each a definition.
use Rattle.std.specs.Prelude.{Bool, not, List, ℕ, ◌*◌, ◌%◌, leb, ltb, eqb, length}
use Rattle.basics.specs.Choose.{either}
use Rattle.hyperperiod.specs.Hyper.{most}
use Rattle.model.specs.Flows.{per_flow, source_of, target_of, period_of, size_of, due_of, flows_in, occupancy_in}
use Rattle.model.specs.declared.flows.Mesh.{Mesh}

-- a number lies outside a range, both ends of which are in it
unfoldable pub out_of_range : ℕ → ℕ → ℕ → Bool
out_of_range low high n = either (ltb n low) (ltb high n)

-- 2: columns or rows outside 1 to 16; r or flit width outside 1 to 64
unfoldable pub bad_mesh : Mesh → Bool
bad_mesh mesh =
    either (out_of_range 1 16 mesh.columns)
    (either (out_of_range 1 16 mesh.rows) (either (out_of_range 1 64 mesh.r) (out_of_range 1 64 mesh.flit)))

-- 4: flows not 1 to 64, or the list of numbers not whole flows
unfoldable pub bad_list : List ℕ → Bool
bad_list numbers = either (not (eqb (length numbers % per_flow) 0)) (out_of_range 1 64 (flows_in numbers))

-- 5: source or target no node, or the two equal
unfoldable pub bad_nodes : Mesh → List ℕ → ℕ → Bool
bad_nodes mesh numbers f =
    either (leb (mesh.columns * mesh.rows) (source_of numbers f))
    (either (leb (mesh.columns * mesh.rows) (target_of numbers f)) (eqb (source_of numbers f) (target_of numbers f)))

-- 6: T outside 1 to 16,777,216, size outside 1 to 65,536, D outside 1 to T
unfoldable pub bad_times : List ℕ → ℕ → Bool
bad_times numbers f =
    either (out_of_range 1 most (period_of numbers f))
    (either (out_of_range 1 65536 (size_of numbers f)) (out_of_range 1 (period_of numbers f) (due_of numbers f)))

-- 7: occupancy above D
unfoldable pub too_long : Mesh → List ℕ → ℕ → Bool
too_long mesh numbers f = ltb (due_of numbers f) (occupancy_in mesh numbers f)
