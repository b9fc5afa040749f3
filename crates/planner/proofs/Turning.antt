-- The turns of the packets, read off the arrays of a model that is not refused.
use mathlib.Core.Path.{◌≡◌, refl, sym, ◌∙◌, ap, ap₂}
use mathlib.Core.Bool.{true, false}
use mathlib.Core.List.{List, [], map}
use Prim.Native.Nat.{ℕ, ◌<◌}
use native.Mathlib.Nat.{zero-add}
use native.Mathlib.Omega.{arith}
use lib.ListN.{length, get_or, length-map, get_or-map}
use lib.Seq.{ext_get_or}
use Rattle.std.specs.Prelude.{Ok, Err, is_ok, is_err}
use Rattle.basics.specs.Choose.{choose}
use Rattle.basics.specs.Lists.{tabulate, padded}
use Rattle.basics.proofs.Lists.{tabulate_length, tabulate_at}
use Rattle.packet.specs.Packet.{Packet, absent}
use Rattle.packet.specs.Table.{packet_at}
use Rattle.model.specs.Packets.{packets_in, packets_of}
use Rattle.refusals.specs.Refusals.{Tested, accepted, refusal_of}
use Rattle.model.specs.Fair.{Fair}
use Rattle.arrays.specs.Arrays.{flow_numbers, model_of, packet_in}
use Rattle.model.specs.declared.answers.Answer.{Answer}
use Rattle.arrays.specs.declared.build.Model.{Model}
use Rattle.model.specs.declared.flows.Mesh.{Mesh}
use Rattle.refusals.proofs.Accepted.{accepted_fair}
use Rattle.model.proofs.Numbering.{packets_length}
use Rattle.model.proofs.InTime.{packets_in_time}
use Rattle.arrays.proofs.Entries.{numbers_are, period_entry, flow_entry}
use Rattle.arrays.proofs.Reading.{model_count, packet_in_lem, model_in_bounds}
use Rattle.planner.specs.Numbered.{packets_for, array_of, plan_for, Turned}
use Rattle.planner.specs.declared.numbering.Plan.{Plan}

-- a list of one number of each packet, by its places
by_places : (of : Packet → ℕ) → of absent ≡ 0 → (ps : List Packet) (g : ℕ → ℕ) → ((p : ℕ) → p < length ps → g p ≡ of (packet_at ps p))
    → tabulate g 0 (length ps) ≡ map of ps
unfolding packet_at
by_places of zero_of ps g same =
    ext_get_or 0 (tabulate g 0 (length ps)) (map of ps) (tabulate_length g 0 (length ps) ∙ sym (length-map ps of))
    (λ i h.
    let l : i < length ps = omega (arith, tabulate_length g 0 (length ps)) in
    tabulate_at g 0 (length ps) i 0 l ∙ ap g (zero-add i) ∙ same i l ∙ sym (get_or-map of ps i absent) ∙ ap (get_or (map of ps) i) zero_of)

module _ (mesh : Mesh) (numbers : List ℕ) (fair : Fair mesh numbers) where
  -- a packet below their number
  below : (p : ℕ) → p < (model_of mesh numbers).packets.count → p < packets_in numbers
  below p h = omega (arith, model_count mesh numbers fair)

  -- the model is what reading the turns asks
  pub model_turned : Turned (model_of mesh numbers).flows (model_of mesh numbers).packets
  unfolding model_of
  model_turned = record {
    ready = model_in_bounds mesh numbers fair;
    lasting = λ p h.
        let l = below p h in
        let q = packet_at (packets_of mesh numbers) p in
        let t = packets_in_time mesh numbers fair p l in
        rw (flow_entry mesh numbers p l, period_entry mesh numbers q.flow t.flow_in) (fair.flows q.flow t.flow_in).times.period_low;
    few = λ p h.
        let l = below p h in
        rw (packet_in_lem mesh numbers fair p l) (omega (arith, (packets_in_time mesh numbers fair p l).turn_small));
  }

  -- the turns that are read are those of the packets
  pub turns_are : padded 1024 0 (tabulate (λ p. (packet_in (model_of mesh numbers).flows (model_of mesh numbers).packets p).turn) 0 (model_of mesh numbers).packets.count)
      ≡ array_of (λ (q : Packet). q.turn) (packets_of mesh numbers)
  unfolding array_of
  turns_are =
      ap (λ (n : ℕ). padded 1024 0 (tabulate (λ p. (packet_in (model_of mesh numbers).flows (model_of mesh numbers).packets p).turn) 0 n))
      (model_count mesh numbers fair ∙ sym (packets_length mesh numbers))
      ∙ ap (padded 1024 0)
      (by_places (λ (q : Packet). q.turn) refl (packets_of mesh numbers) (λ p. (packet_in (model_of mesh numbers).flows (model_of mesh numbers).packets p).turn)
      (λ p h. ap (λ (q : Packet). q.turn) (packet_in_lem mesh numbers fair p (omega (arith, packets_length mesh numbers)))))

-- ---- plans

-- a plan by its parts
abbrev plan_with : Answer → List ℕ → List ℕ → Plan
plan_with answer flow turn = record { answer = answer; flow = flow; turn = turn }

-- the flows in the arrays are those of the packets
flows_are : (mesh : Mesh) (numbers : List ℕ) → flow_numbers (model_of mesh numbers).packets.all ≡ array_of (λ (q : Packet). q.flow) (packets_of mesh numbers)
unfolding model_of array_of
flows_are mesh numbers = numbers_are (packets_of mesh numbers)

-- a model that is refused has no packets
pub plan_refused : (answer : Answer) (mesh : Mesh) (numbers : List ℕ) → is_err (refusal_of mesh accepted numbers) ≡ true
    → plan_for answer [] ≡ plan_for answer (packets_for mesh numbers)
unfolding packets_for
plan_refused answer mesh numbers h = ap (plan_for answer) (go (refusal_of mesh accepted numbers) h)
  where
    go : (t : Tested) → is_err t ≡ true → [] ≡ choose (is_ok t) (packets_of mesh numbers) []
    go (Ok x) e = cc
    go (Err r) e = refl

-- one that is not refused is accepted
pub is_accepted : (t : Tested) → is_err t ≡ false → t ≡ accepted
is_accepted (Ok x) e = refl
is_accepted (Err r) e = cc

-- the plan of a model that is not refused, from its arrays
pub plan_built : (answer : Answer) (mesh : Mesh) (numbers : List ℕ) (m : Model) (flow turn : List ℕ) → refusal_of mesh accepted numbers ≡ accepted
    → m ≡ model_of mesh numbers → flow ≡ flow_numbers m.packets.all
    → turn ≡ padded 1024 0 (tabulate (λ p. (packet_in m.flows m.packets p).turn) 0 m.packets.count)
    → record { answer = answer; flow = flow; turn = turn } ≡ plan_for answer (packets_for mesh numbers)
unfolding plan_for packets_for array_of
plan_built answer mesh numbers m flow turn z em ef et =
    let fair = accepted_fair mesh accepted numbers z in
    ap₂ (λ (f t : List ℕ). plan_with answer f t)
    (ef ∙ ap (λ (x : Model). flow_numbers x.packets.all) em ∙ flows_are mesh numbers)
    (et ∙ ap (λ (x : Model). padded 1024 0 (tabulate (λ p. (packet_in x.flows x.packets p).turn) 0 x.packets.count)) em ∙ turns_are mesh numbers fair)
    ∙ sym (rw z)
