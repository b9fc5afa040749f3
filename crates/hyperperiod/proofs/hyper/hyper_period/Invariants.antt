-- The loop folds the periods into their least common multiple: what it keeps is `Folded`.
use mathlib.Core.Path.{◌≡◌}
use mathlib.Core.List.{List}
use Prim.Native.Nat.{ℕ, ◌≤◌, ◌<◌}
use lib.ListN.{drop}
use Rattle.hyperperiod.specs.Hyper.{lcm_with, hyper_of, most}
use Rattle.hyperperiod.proofs.hyper.hyper_period.Given as goal

-- h is the least common multiple of the periods before i, so that folding the rest into it gives H
pub record Folded (ps : List ℕ) (h i : ℕ) : Type 0 where
  pub fold : lcm_with h (drop i ps) ≡ hyper_of ps
  pub low : 0 < h
  pub high : h ≤ most

abbrev pub invariant-loop-t : goal.invariant-loop-t
invariant-loop-t l = Folded l.periods l.h l.t-index
