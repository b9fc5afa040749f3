-- What the answer of the search promises: 0 leaves a table that passes; 13 leaves one whose placed packets are in range and do not
-- collide, and its place is the lowest skipped packet; every other number leaves the table as it was.
-- In order: tables that are read no further than the packets; and the three theorems.
use mathlib.Core.Path.{◌≡◌, refl, sym, ◌∙◌, ap, subst}
use mathlib.Core.Bool.{Bool, true, false, not}
use mathlib.Core.List.{List, ◌++◌}
use Prim.Native.Nat.{ℕ, ◌+◌, ◌≤◌, ◌<◌}
use native.Mathlib.Nat.{lt_of_not-le}
use native.Mathlib.Decide.{dec_le}
use native.Mathlib.Omega.{arith}
use lib.Dec.{eqb}
use lib.ListN.{length, get_or, drop, get_or-append}
use borrow.Author.Tests.{eqb-true, not-true, not-false}
use Rattle.basics.specs.First.{first}
use Rattle.basics.specs.Sums.{count_of}
use Rattle.basics.proofs.First.{first_passes, first_least}
use Rattle.packet.specs.Packet.{Packet}
use Rattle.packet.specs.Table.{packet_at, time_at, passes, none, placed}
use Rattle.model.specs.Packets.{packets_in, packets_of}
use Rattle.refusals.specs.Refusals.{Tested, accepted, refuse_if, refusal_of}
use Rattle.refusals.proofs.Places.{refusal_in_table}
use Rattle.std.specs.Prelude.{Ok, Err}
use Rattle.std.specs.Result.{result_and}
use Rattle.model.specs.Answers.{refused_by, refusal_number, in_table}
use Rattle.model.specs.declared.flows.Mesh.{Mesh}
use Rattle.model.specs.declared.answers.Refusal.{Refusal}
use Rattle.model.specs.declared.answers.Refusal.TheVariants.{ShortTable}
use Rattle.model.specs.declared.answers.Answer.{Answer}
use Rattle.model.proofs.Refusing.{number_low, number_high}
use Rattle.model.proofs.Numbering.{packets_length}
use Rattle.model.proofs.InTime.{packets_in_time}
use Rattle.passes.specs.Passes.{Found, skipped_in, lowest_skipped}
use Rattle.keys.specs.Slack.{slack_at}
use Rattle.passes.proofs.Sound.{Safe}
use Rattle.packet.proofs.Placed.{skipped_holds}
use Rattle.passes.proofs.Complete.{search_length, search_safe, complete_passes}
use Rattle.reports.specs.Reports.{number_for, place_for}
use Rattle.search.specs.Answering.{settings_refusal, bad_table, search_refusal, search_of, found_answer, answer_of, table_after}
use Rattle.basics.proofs.Sums.{count_same, none_counted}
use Rattle.search.proofs.Entering.{entry_fair}

-- ---- a table with more places than packets

module _ (ps : List Packet) (table more : List ℕ) (long : length table ≡ length ps) where
  -- whether a packet is placed
  placed_front : (q : ℕ) → q < length ps → placed (table ++ more) q ≡ placed table q
  unfolding placed
  placed_front q h = ap (λ (t : ℕ). not (eqb t none)) (get_or-append table more none q (omega arith))

  -- its time
  time_front : (q : ℕ) → q < length ps → time_at (table ++ more) q ≡ time_at table q
  unfolding time_at
  time_front q h = get_or-append table more 0 q (omega arith)

  -- it is sound where its front is
  safe_front : Safe ps table → Safe ps (table ++ more)
  safe_front s = record {
    ranged = λ q h e. rw (time_front q h) (s.ranged q h (sym (placed_front q h) ∙ e));
    apart = λ a b h k ne d e.
        rw (time_front a h, time_front b k) (s.apart a b h k ne (sym (placed_front a h) ∙ d) (sym (placed_front b k) ∙ e));
  }

  -- as many are skipped
  skipped_front : skipped_in ps (table ++ more) ≡ skipped_in ps table
  unfolding skipped_in
  skipped_front = count_same _ _ (length ps) (λ q h. ap not (placed_front q h))

-- ---- the answer

module _ (mesh : Mesh) (f g : ℕ) (numbers table : List ℕ) where
  -- the packets, and what the search finds
  abbrev ps : List Packet
  ps = packets_of mesh numbers

  abbrev found : Found
  found = search_of (packets_of mesh numbers) f g

  -- every number but 0 and 13 writes nothing
  pub refused_writes_nothing : ((answer_of mesh f g numbers table).number ≡ 0 → ⊥) → ((answer_of mesh f g numbers table).number ≡ 13 → ⊥)
      → table_after mesh f g numbers table ≡ table
  unfolding answer_of table_after found_answer number_for
  refused_writes_nothing no_zero no-13 = go (search_refusal mesh f g numbers table) refl (eqb (skipped_in ps found.table) 0) refl
    where
      go : (t : Tested) → search_refusal mesh f g numbers table ≡ t → (u : Bool) → eqb (skipped_in ps found.table) 0 ≡ u
          → table_after mesh f g numbers table ≡ table
      go (Ok x) e true d = absurd (no_zero (rw (e, d)))
      go (Ok x) e false d = absurd (no-13 (rw (e, d)))
      go (Err r) e u d = rw e

  module _ (e : search_refusal mesh f g numbers table ≡ accepted) where
    -- the answer of a search that is not refused
    answer_found : answer_of mesh f g numbers table ≡ found_answer numbers ps found
    unfolding answer_of
    answer_found = rw e

    table_found : table_after mesh f g numbers table ≡ found.table ++ drop (packets_in numbers) table
    unfolding table_after
    table_found = rw e

    -- nothing refuses the model
    start_none : refusal_of mesh (settings_refusal f g) numbers ≡ accepted
    unfolding search_refusal
    start_none = grind arith

    -- its packets fit
    fitting : (p : ℕ) → p < length ps → (packet_at ps p).release + (packet_at ps p).occupancy ≤ (packet_at ps p).deadline
    fitting p h =
        (packets_in_time mesh numbers (entry_fair mesh f g numbers table start_none) p (omega (arith, packets_length mesh numbers))).fits

    long : length found.table ≡ length ps
    long = search_length (slack_at ps) ps f g fitting

    -- the table left is sound
    found_safe : Safe ps (table_after mesh f g numbers table)
    found_safe =
        subst (Safe ps) (sym table_found) (safe_front ps found.table (drop (packets_in numbers) table) long (search_safe (slack_at ps) ps f g fitting))

-- what the number says of how many are skipped
number_zero : (skipped : ℕ) → number_for skipped ≡ 0 → skipped ≡ 0
unfolding number_for
number_zero skipped e = go (eqb skipped 0) refl
  where
    go : (t : Bool) → eqb skipped 0 ≡ t → skipped ≡ 0
    go true z = eqb-true skipped 0 z
    go false z = absurd (let y : ◌≡◌ {A = ℕ} 13 0 = sym (rw (z, number_for) refl) ∙ e in omega arith)

-- 13 carries the place given
place_for_lem : (skipped lowest : ℕ) → number_for skipped ≡ 13 → place_for skipped lowest ≡ lowest
unfolding number_for place_for
place_for_lem skipped lowest e = go (eqb skipped 0) refl
  where
    go : (t : Bool) → eqb skipped 0 ≡ t → place_for skipped lowest ≡ lowest
    go true z = absurd (let y : ◌≡◌ {A = ℕ} 0 13 = sym (rw (z, number_for) refl) ∙ e in omega arith)
    go false z = rw z refl

-- where some are skipped, the lowest is a packet, is skipped, and every lower one is placed
lowest_of : (ps : List Packet) (table : List ℕ) → number_for (skipped_in ps table) ≡ 13
    → (lowest_skipped ps table < length ps) × (placed table (lowest_skipped ps table) ≡ false) × ((q : ℕ) → q < lowest_skipped ps table → placed table q ≡ true)
unfolding skipped_in lowest_skipped number_for
lowest_of ps table e =
    let test : ℕ → Bool = λ p. not (placed table p) in
    let below : first (λ p. not (placed table p)) (length ps) < length ps =
    elim (dec_le (length ps) (first (λ p. not (placed table p)) (length ps))) [
      | no a ↦ lt_of_not-le a
      | yes a ↦
          let none_skipped : count_of (λ p. not (placed table p)) (length ps) ≡ 0 =
          none_counted (λ p. not (placed table p)) (length ps) (λ q h. first_least (λ p. not (placed table p)) (length ps) q (omega arith)) in
          absurd (let y : ◌≡◌ {A = ℕ} 0 13 = sym (rw (none_skipped, number_for) refl) ∙ e in omega arith)
    ] in (
      below,
      not-true _ (first_passes (λ p. not (placed table p)) (length ps) below),
      λ q h. not-false _ (first_least (λ p. not (placed table p)) (length ps) q h),
    )

-- the answer of a refusal carries its number
refused_number : (mesh : Mesh) (f g : ℕ) (numbers table : List ℕ) (r : Refusal) → search_refusal mesh f g numbers table ≡ Err r
    → (answer_of mesh f g numbers table).number ≡ refusal_number r
unfolding answer_of refused_by
refused_number mesh f g numbers table r e = rw e

-- the refusal of the settings is a row of document 01's table
settings_row : (f g : ℕ) (r : Refusal) → settings_refusal f g ≡ Err r → in_table r ≡ true
unfolding settings_refusal refuse_if in_table
settings_row f g r e = grind arith

-- and so is every refusal of the search
pub search_in_table : (mesh : Mesh) (f g : ℕ) (numbers table : List ℕ) (r : Refusal) → search_refusal mesh f g numbers table ≡ Err r
    → in_table r ≡ true
unfolding search_refusal refuse_if in_table
search_in_table mesh f g numbers table r e = go (refusal_of mesh (settings_refusal f g) numbers) refl e
  where
    go : (t : Tested) → refusal_of mesh (settings_refusal f g) numbers ≡ t
        → result_and t (refuse_if (bad_table numbers table) ShortTable) ≡ Err r → in_table r ≡ true
    go (Ok x) w e = grind arith
    go (Err q) w e = refusal_in_table mesh (settings_refusal f g) numbers (settings_row f g) r (w ∙ e)

-- a search that ended with skipped packets: the placed ones are in range and do not collide, and the place is the lowest skipped one
pub record Ended (ps : List Packet) (table : List ℕ) (place : ℕ) : Type 0 where
  pub safe : Safe ps table
  pub listed : place < length ps
  pub skipped : get_or table place none ≡ none
  pub lowest : (q : ℕ) → q < place → placed table q ≡ true

module _ (mesh : Mesh) (f g : ℕ) (numbers table : List ℕ) where
  -- 0: the search is complete, and the table that it leaves passes
  pub complete_search : (answer_of mesh f g numbers table).number ≡ 0 → passes (packets_of mesh numbers) (table_after mesh f g numbers table) ≡ true
  unfolding found_answer number_for
  complete_search is = go (search_refusal mesh f g numbers table) refl
    where
      go : (t : Tested) → search_refusal mesh f g numbers table ≡ t
          → passes (packets_of mesh numbers) (table_after mesh f g numbers table) ≡ true
      go (Err r) e = absurd (omega (arith, refused_number mesh f g numbers table r e, number_low r (search_in_table mesh f g numbers table r e)))
      go (Ok x) e =
          let n : number_for (skipped_in (packets_of mesh numbers) (search_of (packets_of mesh numbers) f g).table) ≡ 0 =
          ap (λ (a : Answer). a.number) (sym (answer_found mesh f g numbers table e)) ∙ is in
          complete_passes (packets_of mesh numbers) (table_after mesh f g numbers table) (found_safe mesh f g numbers table e)
          (ap (skipped_in (packets_of mesh numbers)) (table_found mesh f g numbers table e)
          ∙ skipped_front (packets_of mesh numbers) (search_of (packets_of mesh numbers) f g).table (drop (packets_in numbers) table) (long mesh f g numbers table e)
          ∙ number_zero (skipped_in (packets_of mesh numbers) (search_of (packets_of mesh numbers) f g).table) n)

  -- 13: the search ended with skipped packets
  pub ended_search : (answer_of mesh f g numbers table).number ≡ 13
      → Ended (packets_of mesh numbers) (table_after mesh f g numbers table) (answer_of mesh f g numbers table).place
  unfolding found_answer
  ended_search is = go (search_refusal mesh f g numbers table) refl
    where
      go : (t : Tested) → search_refusal mesh f g numbers table ≡ t
          → Ended (packets_of mesh numbers) (table_after mesh f g numbers table) (answer_of mesh f g numbers table).place
      go (Err r) e = absurd (omega (arith, refused_number mesh f g numbers table r e, number_high r (search_in_table mesh f g numbers table r e)))
      go (Ok x) e =
          let n : number_for (skipped_in (packets_of mesh numbers) (search_of (packets_of mesh numbers) f g).table) ≡ 13 =
          ap (λ (a : Answer). a.number) (sym (answer_found mesh f g numbers table e)) ∙ is in
          let w = lowest_of (packets_of mesh numbers) (search_of (packets_of mesh numbers) f g).table n in
          let place : (answer_of mesh f g numbers table).place ≡ lowest_skipped (packets_of mesh numbers) (search_of (packets_of mesh numbers) f g).table =
          ap (λ (a : Answer). a.place) (answer_found mesh f g numbers table e)
          ∙ place_for_lem (skipped_in (packets_of mesh numbers) (search_of (packets_of mesh numbers) f g).table) (lowest_skipped (packets_of mesh numbers) (search_of (packets_of mesh numbers) f g).table) n in
          let front = placed_front (packets_of mesh numbers) (search_of (packets_of mesh numbers) f g).table (drop (packets_in numbers) table) (long mesh f g numbers table e) in
          subst (Ended (packets_of mesh numbers) (table_after mesh f g numbers table)) (sym place)
          record {
            safe = found_safe mesh f g numbers table e;
            listed = w.0;
            skipped =
                skipped_holds (table_after mesh f g numbers table) (lowest_skipped (packets_of mesh numbers) (search_of (packets_of mesh numbers) f g).table)
                (ap (λ (t : List ℕ). placed t (lowest_skipped (packets_of mesh numbers) (search_of (packets_of mesh numbers) f g).table)) (table_found mesh f g numbers table e) ∙ front (lowest_skipped (packets_of mesh numbers) (search_of (packets_of mesh numbers) f g).table) w.0 ∙ w.1);
            lowest = λ q h. ap (λ (t : List ℕ). placed t q) (table_found mesh f g numbers table e) ∙ front q (omega (arith, w.0)) ∙ w.2 q h;
          }
