-- A flow and a packet, read off arrays of them.
use Rattle.std.specs.Prelude.{List, [], ℕ, get_or}
use Rattle.routes.specs.declared.paths.Path.{Path}
use Rattle.load.specs.declared.entries.FlowEntry.{FlowEntry}
use Rattle.load.specs.declared.entries.PacketEntry.{PacketEntry}

-- what an array of paths reads as past its end
abbrev pub no_path : Path
no_path = record { links = []; len = 0 }

-- what an array of flows reads as past its end
abbrev pub no_flow : FlowEntry
no_flow = record { period = 0; due = 0; occupancy = 0; path = no_path }

-- what an array of packets reads as past its end
abbrev pub no_packet : PacketEntry
no_packet = record { flow = 0; release = 0 }

-- flow f of an array
abbrev pub nth_flow : List FlowEntry → ℕ → FlowEntry
nth_flow flows f = get_or flows f no_flow

-- packet p of an array
abbrev pub nth_packet : List PacketEntry → ℕ → PacketEntry
nth_packet packets p = get_or packets p no_packet
