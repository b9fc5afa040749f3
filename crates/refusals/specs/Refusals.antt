-- Refusals 2 and 4 to 9: the tests of 8 and 9, and the order of all tests in one place.
use Rattle.std.specs.Prelude.{Bool, List, ℕ, ltb, Result, Ok, Err, is_err}
use Rattle.std.specs.Result.{result_and}
use Rattle.basics.specs.Choose.{choose}
use Rattle.basics.specs.First.{first}
use Rattle.hyperperiod.specs.Hyper.{most}
use Rattle.model.specs.Flows.{flows_in}
use Rattle.model.specs.Packets.{hyper_in, packets_in}
use Rattle.limits.specs.Limits.{bad_mesh, bad_list, bad_nodes, bad_times, too_long}
use Rattle.model.specs.declared.flows.Mesh.{Mesh}
use Rattle.model.specs.declared.answers.Refusal.{Refusal}
use Rattle.model.specs.declared.answers.Refusal.TheVariants.{BadMesh, BadList, BadNodes, BadTimes, TooLong, LongHyper, ManyPackets}

-- 8: H above 16,777,216
unfoldable pub bad_hyper : List ℕ → Bool
bad_hyper numbers = ltb most (hyper_in numbers)

-- 9: more than 1,024 packets
unfoldable pub bad_packets : List ℕ → Bool
bad_packets numbers = ltb 1024 (packets_in numbers)

-- what a test says: a refusal, or none
abbrev pub Tested : Type 0
Tested = Result (Unit {0}) Refusal

-- no refusal
abbrev pub accepted : Tested
accepted = Ok tt

-- a refusal where the test passes
unfoldable pub refuse_if : Bool → Refusal → Tested
refuse_if bad refusal = choose bad (Err refusal) accepted

-- the tests of one flow, in order: of two tests `result_and` is the first refusal
unfoldable pub flow_refusal : Mesh → List ℕ → ℕ → Tested
flow_refusal mesh numbers f =
    result_and (refuse_if (bad_nodes mesh numbers f) (BadNodes f))
    (result_and (refuse_if (bad_times numbers f) (BadTimes f)) (refuse_if (too_long mesh numbers f) (TooLong f)))

-- a flow is refused
unfoldable pub bad_flow : Mesh → List ℕ → ℕ → Bool
bad_flow mesh numbers f = is_err (flow_refusal mesh numbers f)

-- the tests of all flows, flow by flow: the refusal of the lowest flow that is refused
unfoldable pub flows_refusal : Mesh → List ℕ → Tested
flows_refusal mesh numbers =
    choose (ltb (first (bad_flow mesh numbers) (flows_in numbers)) (flows_in numbers))
    (flow_refusal mesh numbers (first (bad_flow mesh numbers) (flows_in numbers)))
    accepted

-- the tests of the sums: 8, then 9
unfoldable pub sums_refusal : List ℕ → Tested
sums_refusal numbers = result_and (refuse_if (bad_hyper numbers) LongHyper) (refuse_if (bad_packets numbers) ManyPackets)

-- the order of the tests: 2; what the caller tests between 2 and 4; 4; then flow by flow 5, 6, 7; then 8, 9
unfoldable pub refusal_of : Mesh → Tested → List ℕ → Tested
refusal_of mesh between numbers =
    result_and (refuse_if (bad_mesh mesh) BadMesh)
    (result_and between
    (result_and (refuse_if (bad_list numbers) BadList) (result_and (flows_refusal mesh numbers) (sums_refusal numbers))))
