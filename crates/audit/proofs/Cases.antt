-- That over a model that is not refused the check's verdict is the verdict of document 01; and the check, case by case.
use mathlib.Core.Path.{◌≡◌, refl, sym, ◌∙◌, ap, ap₂}
use mathlib.Core.Bool.{not}
use mathlib.Core.List.{List}
use Prim.Native.Nat.{ℕ, ◌≤◌, ◌<◌}
use native.Mathlib.Omega.{arith}
use lib.Dec.{ltb}
use lib.ListN.{length}
use borrow.Author.Tests.{lt-ltb, le-ltb}
use Rattle.std.specs.Prelude.{Option, Some, None, Ok, Err}
use Rattle.std.specs.Option.{option_map}
use Rattle.basics.specs.Choose.{both}
use Rattle.basics.specs.First.{first, some, found}
use Rattle.basics.proofs.First.{first_same, some_same, found_same, found_first, found_not}
use Rattle.packet.specs.Packet.{Packet, may_start, collide}
use Rattle.packet.specs.Table.{time_at, outside, meets, meets_higher}
use Rattle.model.specs.Packets.{hyper_in, packets_in, packets_of}
use Rattle.model.specs.Answers.{answer_by, refused_by}
use Rattle.model.specs.Fair.{Fair}
use Rattle.arrays.specs.Arrays.{model_of}
use Rattle.model.specs.declared.flows.Mesh.{Mesh}
use Rattle.model.specs.declared.answers.Refusal.{Refusal}
use Rattle.model.specs.declared.answers.Refusal.TheVariants.{ShortTable, Outside, Collision}
use Rattle.refusals.specs.Refusals.{accepted, refuse_if, refusal_of}
use Rattle.arrays.specs.declared.build.Flows.{Flows}
use Rattle.arrays.specs.declared.build.Packets.{Packets}
use Rattle.model.proofs.Numbering.{packets_length}
use Rattle.arrays.proofs.Reading.{model_count, packet_in_lem}
use Rattle.refusals.proofs.Accepted.{fair_accepted}
use Rattle.pairs.proofs.Pairs.{pair_is}
use Rattle.audit.specs.Check.{too_short, check_refusal, passed_with, verdict_by, first_meeting, verdict_of, check_of}
use Rattle.ranges.specs.Ranges.{strays, Scan}
use Rattle.pairs.specs.Scan.{meets_in, higher_in, first_pair, Timely}
use Rattle.pairs.specs.declared.scan.Pair.{Pair}
use Rattle.audit.specs.Verdict.{verdict_in}

-- a pair that is found is of packets
pub pair_small : (flows : Flows) (packets : Packets) (table : List ℕ) (pair : Pair) → first_pair flows packets table ≡ Some pair
    → (pair.a < packets.count) × (pair.b < packets.count)
pair_small flows packets table pair e = let w = pair_is flows packets table pair e in (w.0, w.1)

-- where no packet is out of its range, the walk over pairs has what it asks
pub timely_past : (flows : Flows) (packets : Packets) (table : List ℕ) → Scan flows packets table → found (strays flows packets table) packets.count ≡ None
    → Timely flows packets table
timely_past flows packets table s e = record { scan = s; in_range = found_not (strays flows packets table) packets.count e }

-- ---- the packets in the arrays are the model's

module _ (mesh : Mesh) (numbers : List ℕ) (fair : Fair mesh numbers) (table : List ℕ) where
  -- there are as many packets in the arrays as in the list
  counted : (model_of mesh numbers).packets.count ≡ length (packets_of mesh numbers)
  counted = model_count mesh numbers fair ∙ sym (packets_length mesh numbers)

  -- a packet below their number
  below : (p : ℕ) → p < (model_of mesh numbers).packets.count → p < packets_in numbers
  below p h = omega (arith, model_count mesh numbers fair)

  -- a packet of the arrays strays exactly where the model's packet is outside its range
  same_stray : (p : ℕ) → p < (model_of mesh numbers).packets.count
      → strays (model_of mesh numbers).flows (model_of mesh numbers).packets table p ≡ outside (packets_of mesh numbers) table p
  unfolding strays outside
  same_stray p h = ap (λ (q : Packet). not (may_start q (time_at table p))) (packet_in_lem mesh numbers fair p (below p h))

  -- two packets of the arrays meet exactly where the model's packets do
  same_meets : (a : ℕ) → a < (model_of mesh numbers).packets.count → (b : ℕ) → b < (model_of mesh numbers).packets.count
      → meets_in (model_of mesh numbers).flows (model_of mesh numbers).packets table a b ≡ meets (packets_of mesh numbers) table a b
  unfolding meets_in meets
  same_meets a h b k =
      ap₂ (λ (p q : Packet). both (ltb a b) (collide p (time_at table a) q (time_at table b)))
      (packet_in_lem mesh numbers fair a (below a h)) (packet_in_lem mesh numbers fair b (below b k))

  -- the lowest packet out of range
  same_first : found (strays (model_of mesh numbers).flows (model_of mesh numbers).packets table) (model_of mesh numbers).packets.count
      ≡ found (outside (packets_of mesh numbers) table) (length (packets_of mesh numbers))
  same_first = found_same _ _ _ same_stray ∙ ap (found (outside (packets_of mesh numbers) table)) counted

  -- the lowest packet that meets a higher one
  same_higher : found (higher_in (model_of mesh numbers).flows (model_of mesh numbers).packets table) (model_of mesh numbers).packets.count
      ≡ found (meets_higher (packets_of mesh numbers) table) (length (packets_of mesh numbers))
  unfolding higher_in meets_higher
  same_higher =
      found_same _ _ _ (λ a h. some_same _ _ _ (same_meets a h) ∙ ap (some (meets (packets_of mesh numbers) table a)) counted)
      ∙ ap (found (meets_higher (packets_of mesh numbers) table)) counted

  -- its lowest partner
  same_partner : (a : ℕ) → a < (model_of mesh numbers).packets.count
      → first (meets_in (model_of mesh numbers).flows (model_of mesh numbers).packets table a) (model_of mesh numbers).packets.count
      ≡ first (meets (packets_of mesh numbers) table a) (length (packets_of mesh numbers))
  same_partner a h = first_same _ _ _ (same_meets a h) ∙ ap (first (meets (packets_of mesh numbers) table a)) counted

  -- the lowest pair
  same_pair : first_pair (model_of mesh numbers).flows (model_of mesh numbers).packets table ≡ first_meeting (packets_of mesh numbers) table
  unfolding first_pair first_meeting
  same_pair = go (found (higher_in (model_of mesh numbers).flows (model_of mesh numbers).packets table) (model_of mesh numbers).packets.count) refl same_higher
    where
      held : ℕ → Pair
      held a = record { a = a; b = first (meets_in (model_of mesh numbers).flows (model_of mesh numbers).packets table a) (model_of mesh numbers).packets.count }

      listed : ℕ → Pair
      listed a = record { a = a; b = first (meets (packets_of mesh numbers) table a) (length (packets_of mesh numbers)) }

      go : (x : Option ℕ) → found (higher_in (model_of mesh numbers).flows (model_of mesh numbers).packets table) (model_of mesh numbers).packets.count ≡ x
          → x ≡ found (meets_higher (packets_of mesh numbers) table) (length (packets_of mesh numbers))
          → option_map held x ≡ option_map listed (found (meets_higher (packets_of mesh numbers) table) (length (packets_of mesh numbers)))
      go None e d = rw (← d)
      go (Some a) e d = rw (← d) (let pair : ℕ → Pair = λ b. record { a = a; b = b } in ap (λ (b : ℕ). Some (pair b)) (same_partner a (found_first _ _ a e).0))

  -- H
  same_hyper : (model_of mesh numbers).hyper ≡ hyper_in numbers
  unfolding model_of
  same_hyper = refl

  -- over a model that is not refused the verdict of its arrays is the check
  pub verdict_is : answer_by (verdict_in (model_of mesh numbers) table) ≡ check_of mesh numbers table
  unfolding verdict_in check_of check_refusal too_short verdict_of
  verdict_is = rw (same_hyper, same_first, same_pair, counted, fair_accepted mesh numbers fair, packets_length mesh numbers)

  -- ---- the check of a model that is not refused

  -- a table that is too short: 10
  pub check_short : length table < packets_in numbers → check_of mesh numbers table ≡ refused_by ShortTable
  unfolding check_of check_refusal too_short refuse_if
  check_short h = rw (fair_accepted mesh numbers fair, lt-ltb (length table) (packets_in numbers) h)

  -- a table that is long enough: its verdict
  pub check_long : packets_in numbers ≤ length table → check_of mesh numbers table ≡ answer_by (verdict_of (hyper_in numbers) (packets_of mesh numbers) table)
  unfolding check_of check_refusal too_short refuse_if
  check_long h = rw (fair_accepted mesh numbers fair, le-ltb (length table) (packets_in numbers) h)

-- a model that is refused: its refusal
pub check_early : (mesh : Mesh) (numbers table : List ℕ) (refusal : Refusal) → refusal_of mesh accepted numbers ≡ Err refusal
    → check_of mesh numbers table ≡ refused_by refusal
unfolding check_of check_refusal
check_early mesh numbers table refusal e = rw e

-- ---- the verdict of a list of packets

module _ (hyper : ℕ) (ps : List Packet) (table : List ℕ) where
  -- 11: the lowest packet out of range
  pub verdict_11 : first (outside ps table) (length ps) < length ps → verdict_of hyper ps table ≡ Err (Outside (first (outside ps table) (length ps)))
  unfolding verdict_of verdict_by found some
  verdict_11 h = rw (lt-ltb (first (outside ps table) (length ps)) (length ps) h)

  -- 12: the lowest pair
  pub verdict_12 : length ps ≤ first (outside ps table) (length ps) → first (meets_higher ps table) (length ps) < length ps
      → verdict_of hyper ps table
      ≡ Err (Collision (first (meets_higher ps table) (length ps)) (first (meets ps table (first (meets_higher ps table) (length ps))) (length ps)))
  unfolding verdict_of verdict_by first_meeting found some
  verdict_12 h k =
      rw (le-ltb (first (outside ps table) (length ps)) (length ps) h, lt-ltb (first (meets_higher ps table) (length ps)) (length ps) k)

  -- 0: passed
  pub verdict_0 : length ps ≤ first (outside ps table) (length ps) → length ps ≤ first (meets_higher ps table) (length ps)
      → verdict_of hyper ps table ≡ Ok (passed_with hyper (length ps))
  unfolding verdict_of verdict_by first_meeting found some
  verdict_0 h k =
      rw (le-ltb (first (outside ps table) (length ps)) (length ps) h, le-ltb (first (meets_higher ps table) (length ps)) (length ps) k)
