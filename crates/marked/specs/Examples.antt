-- Document 01's marked examples, as rows of numbers: what the definitions give, and what the document says.
use Rattle.std.specs.Prelude.{List, [], ◌∷◌, ◌++◌, ℕ, replicate}
use Rattle.basics.specs.Choose.{as_number}
use Rattle.routes.specs.Route.{route_of}
use Rattle.time.specs.Units.{flits_of, occupancy_of, turns_of, latest_of}
use Rattle.hyperperiod.specs.Hyper.{hyper_of}
use Rattle.packet.specs.Packet.{Packet, collide}
use Rattle.model.specs.declared.flows.Mesh.{Mesh}
use Rattle.model.specs.declared.answers.Answer.{Answer}
use Rattle.audit.specs.Check.{check_of}
use Rattle.search.specs.Answering.{answer_of, table_after}

-- an example: what the definitions give, and what the document says
pub record Example : Type 0 where
  pub gives : List ℕ
  pub says : List ℕ

-- the occupancy of a size in bytes over a distance
unfoldable pub occupancy_at : ℕ → ℕ → ℕ → ℕ → ℕ
occupancy_at r m size flit = (occupancy_of (record { 0 = r }) m (flits_of (record { 0 = size }) (record { 0 = flit }))).0

-- a packet that holds one link for so many cycles
unfoldable pub on_one_link : ℕ → Packet
on_one_link occupancy = record { flow = 0; turn = 0; release = 0; deadline = 0; occupancy = occupancy; path = 0 ∷ [] }

-- Case A's mesh: 2 × 2, r 6, 4-byte flits
unfoldable pub mesh_a : Mesh
mesh_a = record { columns = 2; rows = 2; r = 6; flit = 4 }

-- Case A's flows
unfoldable pub flows_a : List ℕ
flows_a =
    0 ∷ 1 ∷ 608 ∷ 588 ∷ 608
    ∷ 0 ∷ 3 ∷ 608 ∷ 1588 ∷ 608
    ∷ 2 ∷ 3 ∷ 608 ∷ 716 ∷ 608
    ∷ 2 ∷ 1 ∷ 608 ∷ 948 ∷ 608
    ∷ 3 ∷ 0 ∷ 608 ∷ 436 ∷ 608
    ∷ []

-- an answer's number, place and other
unfoldable pub in_short : Answer → List ℕ
in_short a = a.number ∷ a.place ∷ a.other ∷ []

-- a search of Case A into five places: the table, then number, place, H, packets, passes, tries and skipped
unfoldable pub in_full : ℕ → ℕ → List ℕ
in_full f g =
    let lent : List ℕ = replicate 5 0 in
    let a = answer_of mesh_a f g flows_a lent in
    table_after mesh_a f g flows_a lent ++ (a.number ∷ a.place ∷ a.hyper ∷ a.packets ∷ a.passes ∷ a.tries ∷ a.skipped ∷ [])

-- T1 to T12
unfoldable pub examples : List Example
examples =
    -- T1: 2 × 2, 0 to 3
    record { gives = route_of 2 0 3; says = 0 ∷ 2 ∷ 10 ∷ 19 ∷ [] }
    -- T2: 3 to 0
    ∷ record { gives = route_of 2 3 0; says = 18 ∷ 21 ∷ 17 ∷ 1 ∷ [] }
    -- T3: r 6, m 2, 52 bytes, 4-byte flits
    ∷ record { gives = occupancy_at 6 2 52 4 ∷ []; says = 32 ∷ [] }
    -- T4: r 1, m 1, 1 byte, 2-byte flits
    ∷ record { gives = occupancy_at 1 1 1 2 ∷ []; says = 3 ∷ [] }
    -- T5: periods 4 and 6: H, and the packets of each
    ∷ record { gives = hyper_of (4 ∷ 6 ∷ []) ∷ turns_of 12 4 ∷ turns_of 12 6 ∷ []; says = 12 ∷ 3 ∷ 2 ∷ [] }
    -- T6: release 0, deadline 55, occupancy 23: latest start
    ∷ record { gives = latest_of 55 23 ∷ []; says = 32 ∷ [] }
    -- T7: one link, 0 for 416 cycles and 416 for 192: no collision
    ∷ record { gives = as_number (collide (on_one_link 416) 0 (on_one_link 192) 416) ∷ []; says = 0 ∷ [] }
    -- T8: the second at 415: collision
    ∷ record { gives = as_number (collide (on_one_link 416) 0 (on_one_link 192) 415) ∷ []; says = 1 ∷ [] }
    -- T9: Case A: times, number, place, H, packets, passes, tries, skipped
    ∷ record { gives = in_full 16 3; says = 416 ∷ 0 ∷ 416 ∷ 0 ∷ 0 ∷ 0 ∷ 0 ∷ 608 ∷ 5 ∷ 1 ∷ 57 ∷ 0 ∷ [] }
    -- T10: Case A with F 10, G 2
    ∷ record { gives = in_full 10 2; says = 420 ∷ 0 ∷ 4294967295 ∷ 0 ∷ 0 ∷ 13 ∷ 2 ∷ 608 ∷ 5 ∷ 3 ∷ 153 ∷ 1 ∷ [] }
    -- T11: Case A's table, packet 2 at 417
    ∷ record { gives = in_short (check_of mesh_a flows_a (416 ∷ 0 ∷ 417 ∷ 0 ∷ 0 ∷ [])); says = 11 ∷ 2 ∷ 0 ∷ [] }
    -- T12: packet 2 at 415
    ∷ record { gives = in_short (check_of mesh_a flows_a (416 ∷ 0 ∷ 415 ∷ 0 ∷ 0 ∷ [])); says = 12 ∷ 1 ∷ 2 ∷ [] }
    ∷ []
