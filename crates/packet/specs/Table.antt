-- What a table of injection times says of a packet, and what the check says of the table, over any list of packets.
use Rattle.std.specs.Prelude.{Bool, not, List, ℕ, ltb, eqb, length, get_or}
use Rattle.basics.specs.Choose.{both}
use Rattle.basics.specs.First.{some}
use Rattle.packet.specs.Packet.{Packet, absent, may_start, collide}

-- packet number p
unfoldable pub packet_at : List Packet → ℕ → Packet
packet_at ps p = get_or ps p absent

-- the table's time for packet number p
unfoldable pub time_at : List ℕ → ℕ → ℕ
time_at table p = get_or table p 0

-- what a table's place holds whose packet is not placed; a skipped packet's place holds 4,294,967,295
abbrev pub none : ℕ
none = 4294967295

-- packet q is placed: its place of the table holds a time
unfoldable pub placed : List ℕ → ℕ → Bool
placed table q = not (eqb (get_or table q none) none)

-- 11: the time of packet p is outside its start range
unfoldable pub outside : List Packet → List ℕ → ℕ → Bool
outside ps table p = not (may_start (packet_at ps p) (time_at table p))

-- packet a collides with the higher-numbered packet b
unfoldable pub meets : List Packet → List ℕ → ℕ → ℕ → Bool
meets ps table a b = both (ltb a b) (collide (packet_at ps a) (time_at table a) (packet_at ps b) (time_at table b))

-- 12: packet a collides with a higher-numbered one
unfoldable pub meets_higher : List Packet → List ℕ → ℕ → Bool
meets_higher ps table a = some (meets ps table a) (length ps)

-- the table passes: every time is in its range, and no two packets collide
unfoldable pub passes : List Packet → List ℕ → Bool
passes ps table = both (not (some (outside ps table) (length ps))) (not (some (meets_higher ps table) (length ps)))
