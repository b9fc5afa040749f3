-- The jump of the sweep over a placed packet that is in the way, and its walk back to where the packet is put in.
use Rattle.std.specs.Prelude.{ℕ, ◌+◌, ◌-◌, ◌*◌, ◌/◌, ◌≤◌, ◌<◌}
use Rattle.kept.specs.Kept.{start_of, Kept}
use Rattle.kept.specs.declared.finding.Taken.{Taken}

-- the first of the times t, t + F and so on that is at an end or past it
unfoldable pub time_past : ℕ → ℕ → ℕ → ℕ
time_past t end f = t + (end - t + f - 1) / f * f

-- what finding it asks: an end after the time, and small numbers
pub record EndAhead (t end f : ℕ) : Type 0 where
  pub before : t < end
  pub soon : end ≤ 33554432
  pub some_step : 0 < f
  pub small_step : f ≤ 65536

-- what walking back from a packet asks: that and all after it start after the time
pub record Back (taken : Taken) (next time : ℕ) : Type 0 where
  pub kept : Kept taken
  pub within : next ≤ taken.count
  pub later : (j : ℕ) → next ≤ j → j < taken.count → time < start_of taken j
