-- The whole search as the code takes it.
use Rattle.std.specs.Prelude.{◌≡◌, List, ℕ, ◌≤◌, ◌<◌, length, get_or, take}
use Rattle.order.specs.Order.{occurs}
use Rattle.placing.specs.Traffic.{packets_held}
use Rattle.load.specs.declared.traffic.Traffic.{Traffic}
use Rattle.passes.specs.Passes.{Found, search_from}
use Rattle.passes.specs.Stand.{Ready}
use Rattle.passes.specs.declared.repeat.Outcome.{Outcome}

-- what the passes leave, as the definition has it
unfoldable pub found_of : ℕ → Outcome → Found
found_of n r = record { table = take n r.times; passes = r.passes; tries = r.tries }

-- the list that the passes begin with holds packets, each at most once
pub record Enlisted (list : List ℕ) (n : ℕ) : Type 0 where
  pub long : length list ≡ 1024
  pub numbers : (j : ℕ) → j < n → get_or list j 0 < n
  pub once : (q : ℕ) → occurs q (take n list) ≤ 1

-- what the passes ask: packets in time, and their list
pub record Searches (t : Traffic) (f g : ℕ) (list : List ℕ) : Type 0 where
  pub ready : Ready t f g
  pub listing : Enlisted list t.count

-- they leave what the definition says
pub record Searched (t : Traffic) (f g : ℕ) (list : List ℕ) (r : Outcome) : Type 0 where
  pub same : found_of t.count r ≡ search_from (take t.count list) (packets_held t) f g
  pub times_long : length r.times ≡ 1024
