-- `twin_of` counts back from the packet, and asks.
use mathlib.Core.Path.{refl, sym, ◌∙◌}
use Rattle.load.specs.Load.{flow_at}
use Rattle.twins.specs.Twins.{twin_back, twin_at}
use Rattle.twins.proofs.Twinning.{too_far, counted, back_twin, back_other, back_itself, back_none}
use Rattle.twins.proofs.following.twin_of.Goals.{else-q-p-via-then-q-p+else-is_twin, else-q-p-via-else-q-p}
use Rattle.twins.proofs.following.twin_of.Goals as goal

pub bounds-traffic-traffic : goal.bounds-traffic-traffic
unfolding flow_at
bounds-traffic-traffic c = c.requires.loaded.flows _ c.requires.first_in

pub returns-in_err-back : goal.returns-in_err-back
unfolding twin_at twin_back flow_at
returns-in_err-back c = c.from_residual.ensures ∙ sym (rw c.in_err-back.was refl)

pub returns-in_err-q : goal.returns-in_err-q
unfolding twin_at flow_at
returns-in_err-q c = c.from_residual-in_err-q.ensures ∙ sym (rw c.in_ok-back.was (back_none c.args.traffic.now c.args.taken.now (too_far c.checked_sub.ensures c.in_err-q.was)))

pub returns-then-is_twin : goal.returns-then-is_twin
unfolding twin_at flow_at
returns-then-is_twin c =
    sym (rw c.in_ok-back.was (back_twin c.args.traffic.now c.args.taken.now (counted c.checked_sub.ensures c.in_ok-q.was) c.if-q-p.true (sym c.is_twin.ensures ∙ c.if-is_twin.true)))

pub returns-else-q-p : goal.returns-else-q-p
unfolding twin_at flow_at
returns-else-q-p c = elim c.else-q-p.branch [
  | else-q-p-via-then-q-p+else-is_twin w ↦
      sym (rw c.in_ok-back.was (back_other c.args.traffic.now c.args.taken.now (counted c.checked_sub.ensures c.in_ok-q.was) (sym w.is_twin.ensures ∙ w.if-is_twin.false)))
  | else-q-p-via-else-q-p w ↦
      sym (rw c.in_ok-back.was (back_itself c.args.traffic.now c.args.taken.now (counted c.checked_sub.ensures c.in_ok-q.was) w.if-q-p.false))
]
