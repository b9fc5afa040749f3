-- `Flows::none` is its definition: an empty flow is 0 in each number, and has the path without links.
use mathlib.Core.Path.{◌∙◌, ap₂}
use Prim.Native.Nat.{ℕ}
use lib.ListN.{replicate}
use Rattle.basics.specs.Lists.{padded}
use Rattle.routes.specs.declared.paths.Path.{Path}
use Rattle.routes.proofs.Legs.{empty_path}
use Rattle.arrays.specs.declared.build.Flows.{Flows}
use Rattle.arrays.specs.Arrays.{no_flows}
use Rattle.arrays.proofs.build.Flows.none.Goals as goal

pub returns : goal.returns
unfolding padded no_flows
returns c =
    let (period, (due, (occupancy, path))) = c.default.ensures in
    let e = c.default.result in
    let all : ℕ → ℕ → ℕ → Path → Flows = λ t d n p. record {
      count = 0;
      all = replicate 64 (record { period = t; due = d; occupancy = n; path = p });
    } in
    ap₂ (λ (t d : ℕ). all t d e.occupancy e.path) period due ∙ ap₂ (λ (n : ℕ) (p : Path). all 0 0 n p) occupancy (empty_path path)
