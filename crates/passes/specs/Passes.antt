-- The passes, until one runs to the end of its list.
use Rattle.std.specs.Prelude.{true, false, not, List, ℕ, zero, suc, ◌+◌, ◌*◌, ◌-◌, length, replicate}
use Rattle.basics.specs.First.{first}
use Rattle.basics.specs.Sums.{count_of}
use Rattle.packet.specs.Packet.{Packet}
use Rattle.packet.specs.Table.{none, placed}
use Rattle.order.specs.Order.{sorted}
use Rattle.passes.specs.Pass.{pass_over}

-- what the search leaves: the table, the passes begun, and the times tried
pub record Found : Type 0 where
  pub table : List ℕ
  pub passes : ℕ
  pub tries : ℕ

-- the passes from a list and its fail counts on: one that is broken off is followed by a new one, one that runs to the end is the
-- result. `fuel` bounds how many are begun and is never what ends them (`more_fuel` in proofs/ has the law)
unfoldable pub passes_from : ℕ → List Packet → ℕ → ℕ → List ℕ → List ℕ → ℕ → ℕ → Found
passes_from zero ps f g list fails passes tries =
    record { table = replicate (length ps) none; passes = passes; tries = tries }
passes_from (suc fuel) ps f g list fails passes tries =
    let pass = pass_over ps f g list fails in
    elim pass.whole [
      | true ↦ record { table = pass.table; passes = passes + 1; tries = tries + pass.tries }
      | false ↦ passes_from fuel ps f g pass.list pass.fails (passes + 1) (tries + pass.tries)
    ]

-- as many passes as there can be: each that is broken off raises a fail count that stays below G
unfoldable pub ceiling : ℕ → ℕ → ℕ
ceiling packets g = packets * (g - 1) + 1

-- the search over any list of packets, from a list of their numbers: no packet failed yet
unfoldable pub search_from : List ℕ → List Packet → ℕ → ℕ → Found
search_from list ps f g = passes_from (ceiling (length ps) g) ps f g list (replicate (length ps) 0) 0 0

-- the list starts in order of a key
abbrev pub search_by : (ℕ → ℕ) → List Packet → ℕ → ℕ → Found
search_by key ps f g = search_from (sorted key 0 (length ps)) ps f g

-- how many packets are skipped: their places hold no time
unfoldable pub skipped_in : List Packet → List ℕ → ℕ
skipped_in ps table = count_of (λ p. not (placed table p)) (length ps)

-- the lowest skipped packet
unfoldable pub lowest_skipped : List Packet → List ℕ → ℕ
lowest_skipped ps table = first (λ p. not (placed table p)) (length ps)
