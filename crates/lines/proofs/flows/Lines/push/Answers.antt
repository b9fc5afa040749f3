-- `lines::flows::Lines::push` meets its contract.
use mathlib.Core.Path.{ap}
use mathlib.Core.List.{List}
use Prim.Native.Nat.{ℕ, ◌+◌}
use native.Mathlib.Omega.{arith}
use borrow.Author.Tests.{lt-ltb, le-ltb}
use borrow.Author.Rules.{rules}
use Rattle.std.proofs.lemmas.Slice.{put_mid-paste}
use Rattle.model.specs.Flows.{per_flow}
use Rattle.lines.specs.Form.{most_kept}
use Rattle.lines.specs.Steps.{stored_at, with_line}
use Rattle.lines.proofs.flows.Lines.push.Goals as goal

pub returns-then-not-full : goal.returns-then-not-full
unfolding stored_at with_line
returns-then-not-full c =
    rw (lt-ltb c.args.self.now.count most_kept c.if-not-full.true)
    (ap (λ (l : List ℕ). record { numbers = l; count = c.args.self.now.count + 1 })
    (put_mid-paste _ _ _ _ _ per_flow c.copy_from_slice.ensures.after (omega arith) (search rules)))

pub returns-else-not-full : goal.returns-else-not-full
unfolding stored_at with_line
returns-else-not-full c = rw (le-ltb c.args.self.now.count most_kept c.if-not-full.false)
