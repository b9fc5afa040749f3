-- `hyperperiod::hyper::hyper_period` meets its contract, by the laws of H in proofs/HyperPeriod.antt. The loop's invariant is `Folded`,
-- what one turn knows is `Turn`; an early stop is right since H is not below the fold of a part of the periods (`part_above`).
use Rattle.std.proofs.Common.{Some}
use borrow.Author.Rules.{rules}
use mathlib.Core.Path.{◌≡◌, refl, sym, ◌∙◌, ap}
use mathlib.Core.List.{List}
use Prim.Native.Nat.{ℕ, ◌+◌, ◌*◌, ◌/◌, ◌<◌}
use native.Mathlib.Numerals.{add-one}
use native.Mathlib.Omega.{arith}
use lib.ListN.{length, get_or, drop}
use lib.Seq.{drop-cons, drop-length}
use Rattle.hyperperiod.specs.Divisor.{gcd_of, lcm_of}
use Rattle.hyperperiod.specs.Hyper.{lcm_with, hyper_of, Periods}
use Rattle.hyperperiod.proofs.Divisor.{gcd_positive, lcm_positive}
use Rattle.hyperperiod.proofs.HyperPeriod.{within_is, part_above}
use Rattle.hyperperiod.proofs.hyper.hyper_period.Invariants.{Folded}
use Rattle.hyperperiod.proofs.hyper.hyper_period.Goals as goal

-- a turn divides h by d and multiplies by the period t: folding the rest into that gives H
record Turn (ps : List ℕ) (h i d t : ℕ) : Type 0 where
  pub positive : 0 < h / d * t
  pub fold : lcm_with (h / d * t) (drop (i + 1) ps) ≡ hyper_of ps

-- a turn that starts folded, at the divisor that `gcd` gives, is such a turn
turn_of : (ps : List ℕ) (h i d : ℕ) → Periods ps → Folded ps h i → i < length ps → d ≡ gcd_of h (get_or ps i 0) → Turn ps h i d (get_or ps i 0)
unfolding lcm_of lcm_with
turn_of ps h i d p f l e =
    let n : h / d * get_or ps i 0 ≡ lcm_of h (get_or ps i 0) = ap (λ (x : ℕ). h / x * get_or ps i 0) e in
    record {
      positive = rw n (lcm_positive h (get_or ps i 0) f.low (p.low i l));
      fold = rw (n, add-one) (rw (drop-cons ps i 0 l) at f.fold);
    }

-- a fold that has no period left is H
folded : (ps : List ℕ) (h i : ℕ) → Folded ps h i → i ≡ length ps → hyper_of ps ≡ h
unfolding lcm_with
folded ps h i f e = sym f.fold ∙ ap (λ (rest : List ℕ). lcm_with h rest) (ap (λ (n : ℕ). drop n ps) e ∙ drop-length ps)

pub loop-t-init : goal.loop-t-init
unfolding lcm_with hyper_of
loop-t-init c = record { fold = refl; low = search rules; high = search rules }

pub nonzero_div-h : goal.nonzero_div-h
nonzero_div-h c = rw c.gcd.ensures (gcd_positive _ _ c.loop-t.invariant.low)

pub returns-in_err-next : goal.returns-in_err-next
returns-in_err-next c =
    let known = turn_of _ _ _ _ c.requires c.loop-t.invariant c.loop-t-test.true c.gcd.ensures in
    c.from_residual.ensures ∙ sym (part_above _ c.requires.low _ _ known.fold (omega (arith, c.in_err-next.ensures)))

pub returns-then-next-gt-MOST : goal.returns-then-next-gt-MOST
returns-then-next-gt-MOST c =
    let known = turn_of _ _ _ _ c.requires c.loop-t.invariant c.loop-t-test.true c.gcd.ensures in
    sym (part_above _ c.requires.low _ _ known.fold (omega (arith, c.in_ok-next.ensures.1, c.if-next-gt-MOST.true)))

pub loop-t-preserved : goal.loop-t-preserved
loop-t-preserved c =
    let known = turn_of _ _ _ _ c.requires c.loop-t.invariant c.loop-t-test.true c.gcd.ensures in
    rw c.in_ok-next.ensures.1 record { fold = known.fold; low = known.positive; high = omega (arith, c.in_ok-next.ensures.1, c.if-next-gt-MOST.false) }

pub returns : goal.returns
returns c =
    let e = folded _ _ _ c.loop-t.invariant (omega (arith, c.loop-t-test.false, c.loop-t.auto)) in
    sym (within_is _ (omega (arith, e, c.loop-t.invariant.high)) ∙ ap Some e)
