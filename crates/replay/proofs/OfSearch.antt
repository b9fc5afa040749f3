-- Demand 3 for the search: every search reported complete gives a table that passes the check, and so replays for every number of
-- hyper-periods, with every receiver seeing its own packets.
use mathlib.Core.Path.{◌≡◌, refl, ap}
use Rattle.std.specs.Prelude.{Ok, Err}
use mathlib.Core.List.{List, ◌++◌}
use Prim.Native.Nat.{ℕ, ◌≤◌}
use native.Mathlib.Omega.{arith}
use lib.ListN.{length, drop, length-append}
use Rattle.model.specs.Packets.{packets_in, packets_of}
use Rattle.model.specs.Answers.{refused_by, refusal_number}
use Rattle.model.specs.Fair.{Fair}
use Rattle.model.specs.declared.flows.Mesh.{Mesh}
use Rattle.refusals.proofs.Accepted.{accepted_fair, fair_accepted}
use Rattle.model.proofs.Numbering.{packets_length}
use Rattle.model.proofs.Refusing.{number_low}
use Rattle.refusals.specs.Refusals.{Tested, accepted}
use Rattle.audit.specs.Check.{check_of}
use Rattle.keys.specs.Slack.{slack_at}
use Rattle.passes.proofs.Complete.{search_length}
use Rattle.search.specs.Answering.{settings_refusal, search_refusal, search_of, answer_of, table_after}
use Rattle.search.proofs.Promises.{complete_search, search_in_table}
use Rattle.replay.specs.Demand.{Offered, Replays, Received}
use Rattle.replay.proofs.OfModel.{model_sound}
use Rattle.replay.proofs.OfCheck.{check_passes, passed_is_each_replay, passed_is_received}

module _ (mesh : Mesh) (f g : ℕ) (numbers table : List ℕ) (complete : (answer_of mesh f g numbers table).number ≡ 0) where
  -- number 0 is given by no refusal
  taken : search_refusal mesh f g numbers table ≡ accepted
  unfolding answer_of refused_by
  taken = go (search_refusal mesh f g numbers table) refl complete
    where
      go : (t : Tested) → search_refusal mesh f g numbers table ≡ t → (answer_of mesh f g numbers table).number ≡ 0 → t ≡ accepted
      go (Ok x) e z = refl
      go (Err r) e z = absurd (let n : ◌≡◌ {A = ℕ} (refusal_number r) 0 = rw e at z in omega (arith, number_low r (search_in_table mesh f g numbers table r e)))

  -- the model has every number in its range
  fair : Fair mesh numbers
  unfolding search_refusal
  fair = accepted_fair mesh (settings_refusal f g) numbers (let e = taken in grind arith)

  -- the search fills the front of the lent table, and the rest stays
  table_is : table_after mesh f g numbers table ≡ (search_of (packets_of mesh numbers) f g).table ++ drop (packets_in numbers) table
  unfolding table_after
  table_is = rw taken

  -- the table is long enough for its model
  complete_offered : Offered mesh numbers (table_after mesh f g numbers table)
  complete_offered = record {
    not_refused = fair_accepted mesh numbers fair;
    long_enough =
        omega (
          arith,
          ap length table_is,
          length-append (search_of (packets_of mesh numbers) f g).table (drop (packets_in numbers) table),
          search_length (slack_at (packets_of mesh numbers)) (packets_of mesh numbers) f g (model_sound mesh numbers fair).fits,
          packets_length mesh numbers,
        );
  }

  -- every search reported complete gives a table that the check passes
  pub complete_is_passed : (check_of mesh numbers (table_after mesh f g numbers table)).number ≡ 0
  complete_is_passed = (check_passes mesh numbers (table_after mesh f g numbers table) complete_offered).1 (complete_search mesh f g numbers table complete)

  -- and so it replays, for every number of hyper-periods from one up
  pub complete_replays : (N : ℕ) → 1 ≤ N → Replays mesh numbers (table_after mesh f g numbers table) N
  complete_replays N h = (passed_is_each_replay mesh numbers (table_after mesh f g numbers table) complete_offered N h).0 complete_is_passed

  -- and every receiver sees in every period the end of that period's packet and of no other
  pub complete_is_received : (N : ℕ) → Received mesh numbers (table_after mesh f g numbers table) N
  complete_is_received = passed_is_received mesh numbers (table_after mesh f g numbers table) complete_offered complete_is_passed
