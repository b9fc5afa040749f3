-- The packets that the search's arrays hold.
use Rattle.std.specs.Prelude.{List, ℕ, ◌+◌}
use Rattle.basics.specs.Lists.{tabulate}
use Rattle.packet.specs.Packet.{Packet}
use Rattle.load.specs.Load.{flow_at, span_of, path_for, due_at, release_at}
use Rattle.load.specs.declared.traffic.Traffic.{Traffic}

-- packet p, read off the arrays; the search does not know of turns
unfoldable pub packet_held : Traffic → ℕ → Packet
packet_held t p = record {
  flow = flow_at t p;
  turn = 0;
  release = release_at t p;
  deadline = release_at t p + due_at t (flow_at t p);
  occupancy = span_of t (flow_at t p);
  path = path_for t (flow_at t p);
}

-- all of them
unfoldable pub packets_held : Traffic → List Packet
packets_held t = tabulate (packet_held t) 0 t.count
