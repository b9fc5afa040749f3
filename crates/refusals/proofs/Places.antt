-- Every refusal is a row of document 01's table, at the place that the row names: 0 for 2, 4, 8 and 9, the flow for 5, 6 and 7.
-- Of the flows that are refused it is the lowest, by its own first test (`Lowest`). The laws are `refusal_given` and `refusal_in_table`, at
-- the end.
use mathlib.Core.Path.{◌≡◌, refl}
use mathlib.Core.Bool.{Bool, true, false}
use mathlib.Core.List.{List}
use Prim.Native.Nat.{ℕ, ◌≤◌, ◌<◌}
use native.Mathlib.Omega.{arith}
use lib.Dec.{ltb}
use borrow.Author.Tests.{ltb-true}
use Rattle.std.specs.Prelude.{Ok, Err}
use Rattle.basics.specs.Choose.{choose}
use Rattle.basics.specs.First.{first}
use Rattle.basics.proofs.First.{first_least}
use Rattle.model.specs.Flows.{flows_in}
use Rattle.model.specs.Answers.{refusal_number, refusal_place, in_table}
use Rattle.refusals.specs.Refusals.{Tested, bad_flow, accepted, refuse_if, flow_refusal, flows_refusal, sums_refusal, refusal_of}
use Rattle.model.specs.Fair.{FairFlow}
use Rattle.model.specs.declared.flows.Mesh.{Mesh}
use Rattle.model.specs.declared.answers.Refusal.{Refusal}
use Rattle.model.specs.declared.answers.Refusal.TheVariants.{BadMesh, BadList, LongHyper, ManyPackets}
use Rattle.refusals.proofs.Order.{refuse_holds, and_holds}
use Rattle.refusals.proofs.Accepted.{flow_fair, good_flow}

-- flow f is refused by 5, 6 or 7, its own first test that passes, with f as the place; and every flow before it passes
pub record Lowest (mesh : Mesh) (numbers : List ℕ) (f : ℕ) (refusal : Refusal) : Type 0 where
  pub listed : f < flows_in numbers
  pub own : flow_refusal mesh numbers f ≡ Err refusal
  pub low : 5 ≤ refusal_number refusal
  pub high : refusal_number refusal ≤ 7
  pub place : refusal_place refusal ≡ f
  pub before : (j : ℕ) → j < f → FairFlow mesh numbers j

-- the refusals that a model can meet
pub data Given (mesh : Mesh) (between : Tested) (numbers : List ℕ) : Tested → Type 0 where
  none : Given mesh between numbers accepted
  bad_mesh_case : Given mesh between numbers (Err BadMesh)
  caller : Given mesh between numbers between
  bad_list_case : Given mesh between numbers (Err BadList)
  flow : (f : ℕ) (refusal : Refusal) → Lowest mesh numbers f refusal → Given mesh between numbers (Err refusal)
  long_hyper : Given mesh between numbers (Err LongHyper)
  many_packets : Given mesh between numbers (Err ManyPackets)

module _ (mesh : Mesh) (between : Tested) (numbers : List ℕ) where
  -- the refusal of a flow is 5, 6 or 7, and its place is the flow
  of_the_flow : (f : ℕ) (r : Refusal) → flow_refusal mesh numbers f ≡ Err r
      → (5 ≤ refusal_number r) × (refusal_number r ≤ 7) × (refusal_place r ≡ f)
  unfolding flow_refusal refuse_if refusal_number refusal_place
  of_the_flow f r e = (grind arith, grind arith, grind arith)

  -- the first refused flow is given with its own refusal
  flow_given : (f : ℕ) → f < flows_in numbers → ((j : ℕ) → j < f → FairFlow mesh numbers j) → Given mesh between numbers (flow_refusal mesh numbers f)
  flow_given f h fair = go (flow_refusal mesh numbers f) refl
    where
      go : (t : Tested) → flow_refusal mesh numbers f ≡ t → Given mesh between numbers t
      go (Ok x) e = none
      go (Err r) e =
          let w = of_the_flow f r e in
          flow f r (record { listed = h; own = e; low = w.0; high = w.1; place = w.2; before = fair })

  -- the flows together are refused by the lowest that is
  flows_given : Given mesh between numbers (flows_refusal mesh numbers)
  unfolding flows_refusal
  flows_given = go (ltb lowest (flows_in numbers)) refl
    where
      lowest : ℕ
      lowest = first (bad_flow mesh numbers) (flows_in numbers)

      go : (t : Bool) → ltb lowest (flows_in numbers) ≡ t → Given mesh between numbers (choose t (flow_refusal mesh numbers lowest) accepted)
      go true e = flow_given lowest (ltb-true lowest (flows_in numbers) e)
          (λ j h. flow_fair mesh numbers j (good_flow mesh numbers j (first_least (bad_flow mesh numbers) (flows_in numbers) j h)))
      go false e = none

  -- every refusal is a row of the table, at its place
  pub refusal_given : Given mesh between numbers (refusal_of mesh between numbers)
  unfolding refusal_of sums_refusal
  refusal_given =
      and_holds P _ _ (refuse_holds P _ BadMesh bad_mesh_case none)
      (and_holds P _ _ caller
      (and_holds P _ _ (refuse_holds P _ BadList bad_list_case none)
      (and_holds P _ _ flows_given
      (and_holds P _ _ (refuse_holds P _ LongHyper long_hyper none) (refuse_holds P _ ManyPackets many_packets none)))))
    where
      P : Tested → Type 0
      P = Given mesh between numbers

  -- a refusal is a row of the table, where the caller's is
  abbrev pub Row : Tested → Type 0
  Row t = (r : Refusal) → t ≡ Err r → in_table r ≡ true

  -- the refusal of a flow
  flow_row : (f : ℕ) → Row (flow_refusal mesh numbers f)
  unfolding flow_refusal refuse_if in_table
  flow_row f r e = grind arith

  -- no refusal
  no_row : Row accepted
  no_row r e = grind arith

  -- the refusal of the flows together
  flows_row : Row (flows_refusal mesh numbers)
  unfolding flows_refusal
  flows_row = go (ltb lowest (flows_in numbers))
    where
      lowest : ℕ
      lowest = first (bad_flow mesh numbers) (flows_in numbers)

      go : (t : Bool) → Row (choose t (flow_refusal mesh numbers lowest) accepted)
      go true = flow_row lowest
      go false = no_row

  -- every refusal is a row of the table where the caller's own test gives one
  pub refusal_in_table : Row between → Row (refusal_of mesh between numbers)
  unfolding refusal_of sums_refusal in_table
  refusal_in_table own =
      and_holds Row _ _ (refuse_holds Row _ BadMesh (λ r e. grind arith) no_row)
      (and_holds Row _ _ own
      (and_holds Row _ _ (refuse_holds Row _ BadList (λ r e. grind arith) no_row)
      (and_holds Row _ _ flows_row
      (and_holds Row _ _ (refuse_holds Row _ LongHyper (λ r e. grind arith) no_row) (refuse_holds Row _ ManyPackets (λ r e. grind arith) no_row)))))
