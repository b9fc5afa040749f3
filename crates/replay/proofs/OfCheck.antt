-- Demand 3 for the check itself: of a model that is not refused and a table long enough for it.
-- In order: number 0 is that the table passes; then the equivalence with replay, what receivers see, and that a refusal 11 or 12
-- names a fault that replay over one hyper-period shows.
use mathlib.Core.Path.{◌≡◌, refl, sym, ◌∙◌, ap, subst}
use mathlib.Core.Bool.{Bool, true, not}
use mathlib.Core.Logic.{◌↔◌}
use mathlib.Core.List.{List}
use Prim.Native.Nat.{ℕ, ◌≤◌, ◌<◌}
use native.Mathlib.Omega.{arith}
use lib.ListN.{length}
use Rattle.std.specs.Prelude.{Option, Some, None}
use Rattle.basics.specs.First.{first, found}
use Rattle.basics.proofs.Choose.{both_pass}
use Rattle.basics.proofs.First.{first_passes, some_first, some_none, found_first, found_not}
use Rattle.packet.specs.Packet.{Packet}
use Rattle.packet.specs.Table.{outside, meets, meets_higher, passes}
use Rattle.model.specs.Flows.{period_of, flows_in}
use Rattle.model.specs.Packets.{hyper_in, turns_in, packets_of}
use Rattle.refusals.specs.Refusals.{accepted}
use Rattle.model.specs.Answers.{refusal_number, refusal_place, refusal_other, refused_by, answer_by}
use Rattle.model.specs.Fair.{Fair}
use Rattle.model.specs.declared.flows.Mesh.{Mesh}
use Rattle.model.specs.declared.answers.Answer.{Answer}
use Rattle.model.specs.declared.answers.Refusal.TheVariants.{Outside, Collision}
use Rattle.refusals.proofs.Accepted.{accepted_fair}
use Rattle.audit.proofs.Cases.{check_long}
use Rattle.audit.specs.Check.{passed_with, verdict_by, first_meeting, verdict_of, check_of}
use Rattle.replay.specs.Replay.{Stray, Clash}
use Rattle.replay.specs.Demand.{Offered, Replays, Received}
use Rattle.replay.proofs.Fault.{fault_11, fault_12}
use Rattle.replay.proofs.Passed.{check_is_replay, check_is_every_replay}
use Rattle.replay.proofs.Receiver.{receiver_sees}
use Rattle.replay.proofs.OfModel.{model_sound, model_periodic}

-- ---- number 0 is that the table passes

-- a number that is found is below n, and passes
found_passes : (test : ℕ → Bool) (n i : ℕ) → found test n ≡ Some i → (i < n) × (test i ≡ true)
found_passes test n i e =
    let w = found_first test n i e in
    (w.0, subst (λ (k : ℕ). test k ≡ true) w.1 (first_passes test n (omega (arith, w.0, w.1))))

module _ (hyper : ℕ) (ps : List Packet) (table : List ℕ) where
  -- the answer of the verdict
  abbrev answer : Answer
  answer = answer_by (verdict_of hyper ps table)

  -- what a verdict is, by its three cases
  data Verdict : Type 0 where
    is_11 : (p : ℕ) → found (outside ps table) (length ps) ≡ Some p → answer ≡ refused_by (Outside p) → Verdict
    is_12 : (a : ℕ) → found (meets_higher ps table) (length ps) ≡ Some a
        → answer ≡ refused_by (Collision a (first (meets ps table a) (length ps))) → Verdict
    is_0 : found (outside ps table) (length ps) ≡ None → found (meets_higher ps table) (length ps) ≡ None
        → answer ≡ passed_with hyper (length ps) → Verdict

  -- every verdict is one of the three
  verdict : Verdict
  unfolding verdict_of verdict_by first_meeting
  verdict = go (found (outside ps table) (length ps)) refl (found (meets_higher ps table) (length ps)) refl
    where
      go : (x : Option ℕ) → found (outside ps table) (length ps) ≡ x → (y : Option ℕ) → found (meets_higher ps table) (length ps) ≡ y → Verdict
      go (Some p) d y e = is_11 p d (rw d)
      go None d (Some a) e = is_12 a e (rw (d, e))
      go None d None e = is_0 d e (rw (d, e))

  -- the number of a verdict
  numbered : {n : ℕ} {a : Answer} → answer.number ≡ n → answer ≡ a → a.number ≡ n
  numbered e v = sym (ap (λ (x : Answer). x.number) v) ∙ e

  -- number 0: the table passes
  pub zero_passes : answer.number ≡ 0 → passes ps table ≡ true
  unfolding refused_by refusal_number passes
  zero_passes e = elim verdict [
    | is_11 p d v ↦ absurd (omega (arith, numbered e v))
    | is_12 a d v ↦ absurd (omega (arith, numbered e v))
    | is_0 d m v ↦
        both_pass _ _ (ap not (some_none (outside ps table) (length ps) (found_not _ _ d))) (ap not (some_none (meets_higher ps table) (length ps) (found_not _ _ m)))
  ]

  -- a table that passes: number 0
  pub passes_zero : passes ps table ≡ true → answer.number ≡ 0
  unfolding passes found verdict_of verdict_by first_meeting passed_with
  passes_zero e = grind arith

  -- number 11: the place is a packet out of its range
  pub eleven_outside : answer.number ≡ 11 → (answer.place < length ps) × (outside ps table answer.place ≡ true)
  unfolding refused_by refusal_number refusal_place passed_with
  eleven_outside e = elim verdict [
    | is_11 p d v ↦ rw (ap (λ (x : Answer). x.place) v) (found_passes (outside ps table) (length ps) p d)
    | is_12 a d v ↦ absurd (omega (arith, numbered e v))
    | is_0 d m v ↦ absurd (omega (arith, numbered e v))
  ]

  -- number 12: the place is a packet that meets the other
  pub twelve_meets : answer.number ≡ 12 → (answer.other < length ps) × (meets ps table answer.place answer.other ≡ true)
  unfolding refused_by refusal_number refusal_place refusal_other passed_with meets_higher
  twelve_meets e = elim verdict [
    | is_11 p d v ↦ absurd (omega (arith, numbered e v))
    | is_12 a d v ↦
        let l = some_first (meets ps table a) (length ps) (found_passes (meets_higher ps table) (length ps) a d).1 in
        rw (ap (λ (x : Answer). x.place) v, ap (λ (x : Answer). x.other) v) (l, first_passes (meets ps table a) (length ps) l)
    | is_0 d m v ↦ absurd (omega (arith, numbered e v))
  ]

-- ---- demand 3

module _ (mesh : Mesh) (numbers table : List ℕ) (offered : Offered mesh numbers table) where
  -- a model that is not refused
  fair : Fair mesh numbers
  fair = accepted_fair mesh accepted numbers offered.not_refused

  -- its check is the verdict of its packets
  judged : check_of mesh numbers table ≡ answer_by (verdict_of (hyper_in numbers) (packets_of mesh numbers) table)
  judged = check_long mesh numbers fair table offered.long_enough

  -- number 0 of the check is that the table passes
  pub check_passes : ((check_of mesh numbers table).number ≡ 0) ↔ (passes (packets_of mesh numbers) table ≡ true)
  check_passes = (
    λ e. zero_passes (hyper_in numbers) (packets_of mesh numbers) table (sym (ap (λ (x : Answer). x.number) judged) ∙ e),
    λ e. ap (λ (x : Answer). x.number) judged ∙ passes_zero (hyper_in numbers) (packets_of mesh numbers) table e,
  )

  -- the check passes the table exactly when replay is clean, for each number of hyper-periods from one up
  pub passed_is_each_replay : (N : ℕ) → 1 ≤ N → ((check_of mesh numbers table).number ≡ 0) ↔ Replays mesh numbers table N
  passed_is_each_replay N h =
      let r = check_is_replay (packets_of mesh numbers) (hyper_in numbers) table (model_sound mesh numbers fair) N h in
      (λ e. r.0 (check_passes.0 e), λ clean. check_passes.1 (r.1 clean))

  -- the check passes the table exactly when replay is clean for every number of hyper-periods from one up
  pub passed_is_every_replay : ((check_of mesh numbers table).number ≡ 0) ↔ ((N : ℕ) → 1 ≤ N → Replays mesh numbers table N)
  passed_is_every_replay =
      let r = check_is_every_replay (packets_of mesh numbers) (hyper_in numbers) table (model_sound mesh numbers fair) in
      (λ e. r.0 (check_passes.0 e), λ clean. check_passes.1 (r.1 clean))

  -- in the replay of a passed table every receiver sees, in every period, the end of that period's packet and of no other
  pub passed_is_received : (check_of mesh numbers table).number ≡ 0 → (N : ℕ) → Received mesh numbers table N
  passed_is_received e N =
      receiver_sees (packets_of mesh numbers) (hyper_in numbers) (flows_in numbers) (period_of numbers) (turns_in numbers)
      (model_periodic mesh numbers fair) table (model_sound mesh numbers fair) (check_passes.0 e) N

  -- a refusal 11 names a packet that replay over one hyper-period shows before its release or at or after its deadline
  pub eleven_is_stray : (check_of mesh numbers table).number ≡ 11
      → (link : ℕ) × (cycle : ℕ) × Stray (packets_of mesh numbers) (hyper_in numbers) table 0 (check_of mesh numbers table).place link cycle
  eleven_is_stray e =
      let w = eleven_outside (hyper_in numbers) (packets_of mesh numbers) table (sym (ap (λ (x : Answer). x.number) judged) ∙ e) in
      rw judged (fault_11 (packets_of mesh numbers) (hyper_in numbers) table (model_sound mesh numbers fair) _ w.0 w.1)

  -- a refusal 12 names two packets that replay over one hyper-period shows holding one link in one cycle
  pub twelve_is_clash : (check_of mesh numbers table).number ≡ 12
      → (link : ℕ) × (cycle : ℕ)
      × Clash (packets_of mesh numbers) (hyper_in numbers) table 0 (check_of mesh numbers table).place 0 (check_of mesh numbers table).other link cycle
  twelve_is_clash e =
      let w = twelve_meets (hyper_in numbers) (packets_of mesh numbers) table (sym (ap (λ (x : Answer). x.number) judged) ∙ e) in
      rw judged (fault_12 (packets_of mesh numbers) (hyper_in numbers) table (model_sound mesh numbers fair) _ _ w.0 w.1)
