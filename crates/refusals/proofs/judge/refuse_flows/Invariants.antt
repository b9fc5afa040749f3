-- `refuse_flows` stops at the first flow that is refused, which is the lowest; the loop's invariant is that none before it is (`Passed`).
use mathlib.Core.Path.{◌≡◌}
use mathlib.Core.Bool.{false}
use mathlib.Core.List.{List}
use Prim.Native.Nat.{ℕ, ◌≤◌, ◌<◌}
use Rattle.model.specs.Flows.{flows_in}
use Rattle.refusals.specs.Refusals.{bad_flow}
use Rattle.model.specs.declared.flows.Mesh.{Mesh}
use Rattle.refusals.proofs.judge.refuse_flows.Given as goal

-- no flow before f is refused
pub record Passed (mesh : Mesh) (numbers : List ℕ) (f : ℕ) : Type 0 where
  pub within : f ≤ flows_in numbers
  pub none : (k : ℕ) → k < f → bad_flow mesh numbers k ≡ false

abbrev pub invariant-loop-f : goal.invariant-loop-f
invariant-loop-f l = Passed l.mesh l.numbers l.f
