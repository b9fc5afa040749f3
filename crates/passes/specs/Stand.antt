-- A pass as the code takes it, and what holds of it.
use Rattle.std.specs.Prelude.{◌≡◌, true, false, List, Result, Ok, Err, ℕ, ◌+◌, ◌*◌, ◌≤◌, ◌<◌, length, get_or, take}
use Rattle.std.proofs.Math.Seq.{slice}
use Rattle.hyperperiod.specs.Hyper.{most}
use Rattle.packet.specs.Packet.{Packet}
use Rattle.packet.specs.Table.{packet_at, time_at, placed}
use Rattle.order.specs.Order.{occurs}
use Rattle.load.specs.Load.{flow_at, span_of, path_for, Loaded, due_at, release_at}
use Rattle.kept.specs.Kept.{Kept, Roster}
use Rattle.kept.specs.declared.finding.Taken.{Taken}
use Rattle.placing.specs.Placing.{free}
use Rattle.placing.specs.Traffic.{packets_held}
use Rattle.load.specs.declared.traffic.Traffic.{Traffic}
use Rattle.settling.specs.declared.taking.State.{State}
use Rattle.passes.specs.Pass.{Pass, pass_from, pass_over}
use Rattle.passes.specs.declared.walk.Passed.{Passed}

-- the list of the first n packets that a state carries over
unfoldable pub list_of : ℕ → State → List ℕ
list_of n s = slice s.base n s.order

-- their fail counts
unfoldable pub fails_of : ℕ → State → List ℕ
fails_of n s = take n s.fails

-- where a pass stands: the packets of the list before at are taken, and some of them are placed
pub record Stand : Type 0 where
  pub state : State
  pub taken : Taken
  pub at : ℕ
  pub tries : ℕ

abbrev pub stand_of : State → Taken → ℕ → ℕ → Stand
stand_of state taken at tries = record { state = state; taken = taken; at = at; tries = tries }

-- what the pass leaves from here on
unfoldable pub outcome : List Packet → ℕ → ℕ → Stand → Pass
outcome ps f g s =
    pass_from ps f g (slice s.at (length ps) s.state.order) (slice s.state.base s.at s.state.order) (fails_of (length ps) s.state)
    (take (length ps) s.taken.times) s.tries

-- the packets are in time, and the settings are in their ranges
pub record Ready (t : Traffic) (f g : ℕ) : Type 0 where
  pub few : t.count ≤ 1024
  pub loaded : Loaded t
  pub some_step : 0 < f
  pub small_step : f ≤ 65536
  pub low : 0 < g
  pub high : g ≤ 16
  pub lasting : (p : ℕ) → p < t.count → 0 < span_of t (flow_at t p)
  pub some_links : (p : ℕ) → p < t.count → 0 < length (path_for t (flow_at t p))
  pub fits : (p : ℕ) → p < t.count → span_of t (flow_at t p) ≤ due_at t (flow_at t p)
  pub ends : (p : ℕ) → p < t.count → release_at t p + due_at t (flow_at t p) ≤ most
  pub longest_of : (h : ℕ) → h < 64 → span_of t h ≤ t.longest

-- what is carried over the passes: the list holds packets, each at most once, with fail counts below G
pub record Carried (ps : List Packet) (g : ℕ) (s : State) : Type 0 where
  pub order_long : length s.order ≡ 1024
  pub fails_long : length s.fails ≡ 1024
  pub within : s.base ≤ length ps
  pub numbers : (j : ℕ) → j < length ps → get_or s.order j 0 < length ps
  pub once : (q : ℕ) → occurs q (list_of (length ps) s) ≤ 1
  pub below : (q : ℕ) → 0 < occurs q (list_of (length ps) s) → get_or s.fails q 0 < g

-- packet q stands at one of its times, and none before it is free
pub record Tight (ps : List Packet) (f : ℕ) (table : List ℕ) (q : ℕ) : Type 0 where
  pub i : ℕ
  pub grid : time_at table q ≡ (packet_at ps q).release + i * f
  pub taken : (m : ℕ) → m < i → free ps table q ((packet_at ps q).release + m * f) ≡ false

-- where a pass stands that goes on: its placed packets are kept in order and stand tight, and no packet still to be taken is placed
pub record Going (ps : List Packet) (f g : ℕ) (s : Stand) : Type 0 where
  pub carried : Carried ps g s.state
  pub low : s.state.base ≤ s.at
  pub high : s.at ≤ length ps
  pub few : s.taken.count ≤ s.at
  pub kept : Kept s.taken
  pub listed : Roster ps s.taken
  pub ahead : (q : ℕ) → placed (take (length ps) s.taken.times) q ≡ true → occurs q (slice s.at (length ps) s.state.order) ≡ 0
  pub tight : (q : ℕ) → q < length ps → placed (take (length ps) s.taken.times) q ≡ true → Tight ps f (take (length ps) s.taken.times) q
  pub bounded : s.tries ≤ s.at * 33554432

-- the table that a pass leaves, as the definition has it: of a pass that ran to the end of its list, or of one that was broken off
unfoldable pub TableOf : ℕ → Pass → Result (List ℕ) (List ℕ) → Type 0
TableOf n pass (Ok times) = (pass.whole ≡ true) × (take n times ≡ pass.table) × (length times ≡ 1024)
TableOf n pass (Err times) = (pass.whole ≡ false) × (take n times ≡ pass.table) × (length times ≡ 1024)

-- what a pass asks: packets in time, and what is carried over
pub record Runs (t : Traffic) (f g : ℕ) (s : State) : Type 0 where
  pub ready : Ready t f g
  pub carried : Carried (packets_held t) g s

-- what a pass leaves is what the definition says, and all that is carried over still holds
pub record Ran (ps : List Packet) (f g : ℕ) (s after : State) (r : Passed) : Type 0 where
  pub list : list_of (length ps) after ≡ (pass_over ps f g (list_of (length ps) s) (fails_of (length ps) s)).list
  pub fails : fails_of (length ps) after ≡ (pass_over ps f g (list_of (length ps) s) (fails_of (length ps) s)).fails
  pub tries : r.tries ≡ (pass_over ps f g (list_of (length ps) s) (fails_of (length ps) s)).tries
  pub table : TableOf (length ps) (pass_over ps f g (list_of (length ps) s) (fails_of (length ps) s)) r.table
  pub carried : Carried ps g after
  pub bounded : r.tries ≤ 1024 * 33554432
