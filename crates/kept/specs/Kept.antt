-- The placed packets as the code keeps them: their numbers in order of start, their times in the table of the pass.
use Rattle.std.specs.Prelude.{◌≡◌, true, List, ℕ, ◌+◌, ◌≤◌, ◌<◌, ltb, length, get_or, take, set}
use Rattle.basics.specs.First.{first}
use Rattle.hyperperiod.specs.Hyper.{most}
use Rattle.packet.specs.Packet.{Packet}
use Rattle.packet.specs.Table.{placed}
use Rattle.order.specs.Lists.{shifted}
use Rattle.kept.specs.declared.finding.Taken.{Taken}

-- the start of the placed packet that comes j-th
unfoldable pub start_of : Taken → ℕ → ℕ
start_of taken j = get_or taken.times (get_or taken.by j 0) 0

-- the first that starts after a time: there a packet with this time is put in
unfoldable pub spot_of : Taken → ℕ → ℕ
spot_of taken time = first (λ j. ltb time (start_of taken j)) taken.count

-- one packet more, with its time, at a spot among the placed packets
abbrev pub added : Taken → ℕ → ℕ → ℕ → Taken
added taken spot packet time = record {
  times = set taken.times packet time;
  by = shifted taken.by spot taken.count packet;
  count = taken.count + 1;
}

-- the first count of `by` are packets in order of start
pub record Kept (taken : Taken) : Type 0 where
  pub few : taken.count ≤ 1024
  pub by_long : length taken.by ≡ 1024
  pub times_long : length taken.times ≡ 1024
  pub listed : (j : ℕ) → j < taken.count → get_or taken.by j 0 < 1024
  pub soon : (j : ℕ) → j < taken.count → start_of taken j ≤ most
  pub rising : (i j : ℕ) → i ≤ j → j < taken.count → start_of taken i ≤ start_of taken j

-- they are the placed packets of a table
pub record Roster (ps : List Packet) (taken : Taken) : Type 0 where
  pub inside : (j : ℕ) → j < taken.count → get_or taken.by j 0 < length ps
  pub timed : (j : ℕ) → j < taken.count → placed (take (length ps) taken.times) (get_or taken.by j 0) ≡ true
  pub all : (q : ℕ) → q < length ps → placed (take (length ps) taken.times) q ≡ true → (j : ℕ) × (j < taken.count) × (get_or taken.by j 0 ≡ q)
