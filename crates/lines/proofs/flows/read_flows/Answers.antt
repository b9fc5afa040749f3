-- `lines::flows::read_flows` meets its contract: between two lines the loop knows `Flowing`, and each way out is a law of it.
use mathlib.Core.Path.{◌≡◌, refl, sym, ◌∙◌, subst}
use native.Mathlib.Omega.{arith}
use Rattle.std.specs.Prelude.{Some, None}
use Rattle.std.proofs.lemmas.Result.{err_from_is_err_and}
use Rattle.basics.specs.Lists.{padded}
use Rattle.lines.specs.Form.{flows_kept}
use Rattle.basics.proofs.Choose.{named_error}
use Rattle.lines.proofs.FlowLines.{Flowing, flowing_begins, flowing_ends, flowing_bad, flowing_less, flowing_on}
use Rattle.lines.proofs.flows.read_flows.Goals as goal

pub loop-at-init : goal.loop-at-init
unfolding flows_kept padded
loop-at-init c = flowing_begins _ _ _ c.requires.0 c.requires.1 refl

pub returns-in_err-line : goal.returns-in_err-line
returns-in_err-line c =
    let none : c.read_line.result ≡ None = grind arith in
    let bad = named_error _ _ _ _ none c.ok_or.ensures.value c.in_err-line.was in
    let p = err_from_is_err_and c.from_residual.result c.from_residual.ensures.1 in
    rw (p.1, p.2, ← bad) (flowing_bad _ _ _ _ c.loop-at.invariant c.loop-at-test.true (sym c.read_line.ensures ∙ none))

pub loop-at-smaller : goal.loop-at-smaller
loop-at-smaller c =
    let some : c.read_line.result ≡ Some c.in_ok-line.line = grind arith in
    flowing_less _ _ _ _ c.loop-at.invariant _ (sym c.read_line.ensures ∙ some)

pub loop-at-preserved : goal.loop-at-preserved
loop-at-preserved c =
    let some : c.read_line.result ≡ Some c.in_ok-line.line = grind arith in
    subst (λ x. Flowing c.args.text.now c.args.from c.in_ok-line.line.next x) (sym c.push.ensures) (flowing_on _ _ _ _ c.loop-at.invariant _ (sym c.read_line.ensures ∙ some))

pub returns : goal.returns
returns c = flowing_ends _ _ _ _ c.loop-at.invariant c.loop-at-test.false
