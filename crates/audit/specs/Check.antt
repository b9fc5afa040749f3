-- The check of any table offered: its answer, or document 01's refusal.
use Rattle.std.specs.Prelude.{Option, Some, None, Result, Ok, Err, Bool, List, ℕ, ltb, length}
use Rattle.std.specs.Option.{option_map}
use Rattle.std.specs.Result.{result_and}
use Rattle.basics.specs.First.{first, found}
use Rattle.packet.specs.Packet.{Packet}
use Rattle.packet.specs.Table.{outside, meets, meets_higher}
use Rattle.model.specs.Packets.{hyper_in, packets_in, packets_of}
use Rattle.refusals.specs.Refusals.{Tested, accepted, refuse_if, refusal_of}
use Rattle.model.specs.Answers.{answer_by}
use Rattle.model.specs.declared.flows.Mesh.{Mesh}
use Rattle.model.specs.declared.answers.Answer.{Answer}
use Rattle.model.specs.declared.answers.Refusal.{Refusal}
use Rattle.model.specs.declared.answers.Refusal.TheVariants.{ShortTable, Outside, Collision}
use Rattle.pairs.specs.declared.scan.Pair.{Pair}

-- 10: the table is shorter than the packets
unfoldable pub too_short : List ℕ → List ℕ → Bool
too_short numbers table = ltb (length table) (packets_in numbers)

-- the refusals of the check before 11, in order: those of the model, then 10
unfoldable pub check_refusal : Mesh → List ℕ → List ℕ → Tested
check_refusal mesh numbers table = result_and (refusal_of mesh accepted numbers) (refuse_if (too_short numbers table) ShortTable)

-- 0: the table passed; the answer carries H and the number of packets
unfoldable pub passed_with : ℕ → ℕ → Answer
passed_with hyper packets = record { number = 0; place = 0; other = 0; hyper = hyper; packets = packets; passes = 0; tries = 0; skipped = 0 }

-- 11 of a packet out of its range before 12 of a pair that collides; else passed, with H and the number of packets
unfoldable pub verdict_by : ℕ → ℕ → Option ℕ → Option Pair → Result Answer Refusal
verdict_by hyper n (Some p) pair = Err (Outside p)
verdict_by hyper n None (Some pair) = Err (Collision pair.a pair.b)
verdict_by hyper n None None = Ok (passed_with hyper n)

-- the lowest packet a that collides with a higher-numbered one, and the lowest such, or none
unfoldable pub first_meeting : List Packet → List ℕ → Option Pair
first_meeting ps table = option_map (λ a. record { a = a; b = first (meets ps table a) (length ps) }) (found (meets_higher ps table) (length ps))

-- 11 for all packets before any 12: the lowest packet out of its range; else the lowest a with its lowest b; else passed
unfoldable pub verdict_of : ℕ → List Packet → List ℕ → Result Answer Refusal
verdict_of hyper ps table = verdict_by hyper (length ps) (found (outside ps table) (length ps)) (first_meeting ps table)

-- the check: (mesh numbers, flow numbers, table) → answer
unfoldable pub check_of : Mesh → List ℕ → List ℕ → Answer
check_of mesh numbers table =
    answer_by (result_and (check_refusal mesh numbers table) (verdict_of (hyper_in numbers) (packets_of mesh numbers) table))
