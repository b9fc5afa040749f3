-- The hyper-period: the least common multiple of all periods.
use Rattle.std.specs.Prelude.{Option, Some, None, List, [], ◌∷◌, ℕ, ◌<◌, ◌≤◌, leb, length, get_or}
use Rattle.basics.specs.Choose.{choose}
use Rattle.hyperperiod.specs.Divisor.{lcm_of}

-- the least common multiple of h and all the periods, folded over them
unfoldable pub lcm_with : ℕ → List ℕ → ℕ
lcm_with h [] = h
lcm_with h (t ∷ ts) = lcm_with (lcm_of h t) ts

-- H, the least common multiple of all periods
unfoldable pub hyper_of : List ℕ → ℕ
hyper_of periods = lcm_with 1 periods

-- the largest hyper-period that is not refused
abbrev pub most : ℕ
most = 16777216

-- H, or none where it is above the limit
unfoldable pub hyper_within : List ℕ → Option ℕ
hyper_within periods = choose (leb (hyper_of periods) most) (Some (hyper_of periods)) None

-- periods that are each 1 to the limit
pub record Periods (periods : List ℕ) : Type 0 where
  pub low : (i : ℕ) → i < length periods → 0 < get_or periods i 0
  pub high : (i : ℕ) → i < length periods → get_or periods i 0 ≤ most
