-- `packets_in` adds up the turns of one flow after the other; 64 flows of at most 16,777,216 packets stay in 32 bits.
use mathlib.Core.Path.{◌≡◌, refl, ◌∙◌, ap, ap₂}
use mathlib.Core.List.{List}
use Prim.Native.Nat.{ℕ, ◌+◌, ◌*◌, ◌/◌, ◌≤◌, ◌<◌}
use native.Mathlib.Nat.{div-le_self}
use native.Mathlib.Numerals.{add-one}
use native.Mathlib.Omega.{arith}
use lib.ListN.{length, get_or, take}
use Rattle.basics.specs.Lists.{padded}
use Rattle.basics.specs.Sums.{sum_of}
use Rattle.time.specs.Units.{turns_of}
use Rattle.hyperperiod.specs.Hyper.{most}
use Rattle.model.specs.Flows.{period_of, flows_in}
use Rattle.model.specs.Packets.{periods_of, turns_in, packets_in}
use Rattle.model.proofs.InTime.{periods_length, period_at}
use Rattle.model.proofs.Packing.{periods_front, turns_most}
use Rattle.model.proofs.sums.packets_in.Goals as goal

-- the front of an array that holds the periods has one for each flow
many : (numbers : List ℕ) {all : List ℕ} {n : ℕ} → n ≡ flows_in numbers → all ≡ padded 64 0 (periods_of numbers) → length (take n all) ≡ flows_in numbers
many numbers en e = rw en (ap length (periods_front numbers e) ∙ periods_length numbers)

-- its entry f is the period of flow f
read : (numbers : List ℕ) {all : List ℕ} {n : ℕ} (f : ℕ) → n ≡ flows_in numbers → all ≡ padded 64 0 (periods_of numbers) → f < flows_in numbers
    → get_or (take n all) f 0 ≡ period_of numbers f
read numbers f en e h = rw en (ap (λ (xs : List ℕ). get_or xs f 0) (periods_front numbers e) ∙ period_at numbers f h)

pub loop-period-init : goal.loop-period-init
unfolding sum_of
loop-period-init c = refl

pub nonzero_div-sum : goal.nonzero_div-sum
unfolding flows_in
nonzero_div-sum c =
    let numbers = c.args.numbers.now in
    let e = c.periods-all.ensures in
    let below : c.loop-period.period-index < flows_in numbers = omega (arith, c.loop-period-test.true, many numbers c.flows_in-n.ensures e) in
    rw (read numbers c.loop-period.period-index c.flows_in-n.ensures e below) (c.requires.0.times _ below).period_low

pub overflow_add-sum : goal.overflow_add-sum
unfolding flows_in
overflow_add-sum c =
    let pre = c.requires in
    let numbers = c.args.numbers.now in
    let f : ℕ = c.loop-period.period-index in
    let below : f < flows_in numbers = omega (arith, c.loop-period-test.true, many numbers c.flows_in-n.ensures c.periods-all.ensures) in
    let sum : c.loop-period.sum ≤ f * most = rw c.loop-period.invariant (turns_most numbers (rw pre.1 at pre.2) f) in
    omega (arith, div-le_self c.args.hyper (get_or (take c.flows_in-n.result c.periods-all.result) f 0), pre.0.list.flows_high)

pub loop-period-preserved : goal.loop-period-preserved
unfolding flows_in sum_of turns_in turns_of
loop-period-preserved c =
    let numbers = c.args.numbers.now in
    let e = c.periods-all.ensures in
    let below : c.loop-period.period-index < flows_in numbers = omega (arith, c.loop-period-test.true, many numbers c.flows_in-n.ensures e) in
    rw add-one (ap₂ ◌+◌ c.loop-period.invariant (ap₂ ◌/◌ c.requires.1 (read numbers c.loop-period.period-index c.flows_in-n.ensures e below)))

pub returns : goal.returns
unfolding flows_in packets_in
returns c =
    let numbers = c.args.numbers.now in
    let end : c.loop-period.period-index ≡ flows_in numbers =
    omega (arith, c.loop-period-test.false, c.loop-period.auto, many numbers c.flows_in-n.ensures c.periods-all.ensures) in
    c.loop-period.invariant ∙ ap (sum_of (turns_in numbers)) end
