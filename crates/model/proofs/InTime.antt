-- What is so of a model that is not refused: H is a whole number of each period, and every packet lies within H.
-- In order: the hyper-period and the numbers of packets, past 6 already; then the packets, with bounds that leave room to spare.
use mathlib.Core.Path.{◌≡◌, refl, ◌∙◌, ap}
use mathlib.Core.List.{List, [], ◌∷◌, ◌++◌}
use Prim.Native.Nat.{ℕ, zero, suc, ◌+◌, ◌*◌, ◌≤◌, ◌<◌}
use native.Mathlib.Nat.{zero-add, suc-mul, mul-le-mul_left, mul-le-mul_right, div-mul_cancel}
use native.Mathlib.Omega.{arith}
use lib.ListN.{length, get_or, length-append}
use Rattle.basics.proofs.Lists.{tabulate_length, tabulate_at}
use Rattle.basics.proofs.Sums.{part_whole}
use Rattle.mesh.specs.Node.{place_of, Ends}
use Rattle.mesh.specs.Link.{link_of}
use Rattle.routes.specs.Route.{along_row, along_column, corner, route_of}
use Rattle.routes.proofs.Building.{last_room}
use Rattle.time.specs.Units.{occupancy_of, turns_of}
use Rattle.hyperperiod.specs.Hyper.{most, Periods}
use Rattle.hyperperiod.proofs.HyperPeriod.{hyper_multiple, hyper_positive}
use Rattle.packet.specs.Packet.{Packet}
use Rattle.packet.specs.Table.{packet_at}
use Rattle.model.specs.Flows.{source_of, target_of, period_of, due_of, flows_in, links_of_flow, occupancy_in}
use Rattle.model.specs.Packets.{periods_of, hyper_in, turns_in, packets_in, packet_of, packets_of}
use Rattle.model.specs.Fair.{FairMesh, FairNodes, Timed, Fair}
use Rattle.model.specs.declared.flows.Mesh.{Mesh}
use Rattle.model.proofs.Numbering.{packet_at_lem, numbered}

-- ---- the hyper-period

-- there is a period for each flow
pub periods_length : (numbers : List ℕ) → length (periods_of numbers) ≡ flows_in numbers
unfolding periods_of
periods_length numbers = tabulate_length (period_of numbers) 0 (flows_in numbers)

-- entry f of the periods is flow f's
pub period_at : (numbers : List ℕ) (f : ℕ) → f < flows_in numbers → get_or (periods_of numbers) f 0 ≡ period_of numbers f
unfolding periods_of
period_at numbers f h = tabulate_at (period_of numbers) 0 (flows_in numbers) f 0 h ∙ ap (period_of numbers) (zero-add f)

module _ (numbers : List ℕ) (timed : Timed numbers) where
  -- each period is 1 to the limit
  pub periods_fair : Periods (periods_of numbers)
  periods_fair = record {
    low = λ f h. rw (period_at numbers f (listed f h)) (timed.times f (listed f h)).period_low;
    high = λ f h. rw (period_at numbers f (listed f h)) (timed.times f (listed f h)).period_high;
  }
    where
      listed : (f : ℕ) → f < length (periods_of numbers) → f < flows_in numbers
      listed f h = rw (periods_length numbers) at h

  -- H is positive
  pub hyper_low : 0 < hyper_in numbers
  unfolding hyper_in
  hyper_low = hyper_positive (periods_of numbers) periods_fair.low

  -- H is as many periods of a flow as the flow has packets
  pub hyper_whole : (f : ℕ) → f < flows_in numbers → turns_in numbers f * period_of numbers f ≡ hyper_in numbers
  unfolding hyper_in turns_in turns_of
  hyper_whole f h =
      div-mul_cancel (period_of numbers f)
      (rw (period_at numbers f h) at (hyper_multiple (periods_of numbers) f (rw (periods_length numbers) h)))

  -- every flow has a packet
  pub turns_low : (f : ℕ) → f < flows_in numbers → 0 < turns_in numbers f
  turns_low f h = go (turns_in numbers f) refl
    where
      go : (n : ℕ) → turns_in numbers f ≡ n → 0 < turns_in numbers f
      go zero e = absurd (omega (arith, hyper_low, ap (λ (n : ℕ). n * period_of numbers f) e, hyper_whole f h))
      go (suc n) e = omega arith

-- ---- the packets

-- a packet of a model that is not refused
pub record InTime (mesh : Mesh) (numbers : List ℕ) (p : Packet) : Type 0 where
  -- it is one of the packets of one of the flows
  pub flow_in : p.flow < flows_in numbers
  pub turn_in : p.turn < turns_in numbers p.flow
  -- what it has from its flow
  pub released : p.release ≡ p.turn * period_of numbers p.flow
  pub due : p.deadline ≡ p.release + due_of numbers p.flow
  pub holding : p.occupancy ≡ occupancy_in mesh numbers p.flow
  pub along : p.path ≡ links_of_flow mesh numbers p.flow
  -- it holds a link for some cycle, in time
  pub busy : 0 < p.occupancy
  pub routed : 0 < length p.path
  pub fits : p.release + p.occupancy ≤ p.deadline
  pub prompt : p.deadline ≤ p.release + period_of numbers p.flow
  pub within : p.deadline ≤ hyper_in numbers
  -- its numbers are small
  pub flow_small : p.flow < 64
  pub turn_small : p.turn < 1024
  pub release_small : p.release < most
  pub deadline_small : p.deadline ≤ most
  pub occupancy_small : p.occupancy ≤ most
  pub path_small : length p.path ≤ 32

-- every flow's packets hold their links for some cycle
pub occupancy_low : (mesh : Mesh) (numbers : List ℕ) (f : ℕ) → 0 < occupancy_in mesh numbers f
unfolding occupancy_in occupancy_of
occupancy_low mesh numbers f = omega arith

-- every flow's path has a link, L-source
pub path_low : (mesh : Mesh) (numbers : List ℕ) (f : ℕ) → 0 < length (links_of_flow mesh numbers f)
unfolding links_of_flow route_of
path_low mesh numbers f = omega arith

-- a path between two nodes of the mesh is never longer than 32 links
path_high : (mesh : Mesh) (numbers : List ℕ) (f : ℕ) → FairMesh mesh → FairNodes mesh numbers f → length (links_of_flow mesh numbers f) ≤ 32
unfolding links_of_flow route_of
path_high mesh numbers f fair nodes =
    let c = mesh.columns in
    let s = source_of numbers f in
    let t = target_of numbers f in
    let a = place_of c s in
    let b = place_of c t in
    let row = along_row c a b in
    let column = along_column c (corner a b) b in
    let end = link_of t 1 ∷ [] in
    let all : mesh.columns * mesh.rows ≤ mesh.columns * 16 = mul-le-mul_left c fair.rows_high in
    let ends : Ends c s t = record {
      some_columns = fair.columns_low;
      few_columns = fair.columns_high;
      source_in = omega (arith, nodes.source_in);
      target_in = omega (arith, nodes.target_in);
    } in
    let short = last_room ends {a = a} {b = b} refl refl (link_of s 0) in
    omega (arith, length-append row column, length-append row (column ++ end), length-append column end)

module _ (mesh : Mesh) (numbers : List ℕ) (fair : Fair mesh numbers) where
  -- past 9 is past 6
  pub fair_timed : Timed numbers
  fair_timed = record { list = fair.list; times = λ f h. (fair.flows f h).times }

  -- period k of a flow that has more than k packets ends within H
  period_within : (f k : ℕ) → f < flows_in numbers → k < turns_in numbers f → k * period_of numbers f + period_of numbers f ≤ hyper_in numbers
  period_within f k h l =
      omega (arith, mul-le-mul_right (period_of numbers f) l, suc-mul k (period_of numbers f), hyper_whole numbers fair_timed f h)

  -- packet k of flow f is in time
  pub packet_in_time : (f k : ℕ) → f < flows_in numbers → k < turns_in numbers f → InTime mesh numbers (packet_of mesh numbers f k)
  unfolding packet_of packets_in
  packet_in_time f k h l =
      let own = fair.flows f h in
      let some = occupancy_low mesh numbers f in
      let ends = period_within f k h l in
      let few = part_whole (turns_in numbers) f (flows_in numbers) h in
      record {
        flow_in = h;
        turn_in = l;
        released = refl;
        due = refl;
        holding = refl;
        along = refl;
        busy = some;
        routed = path_low mesh numbers f;
        fits = omega (arith, own.fits);
        prompt = omega (arith, own.times.due_high);
        within = omega (arith, own.times.due_high);
        flow_small = omega (arith, fair.list.flows_high);
        turn_small = omega (arith, fair.packets_high);
        release_small = omega (arith, own.times.period_low, fair.hyper_high);
        deadline_small = omega (arith, own.times.due_high, fair.hyper_high);
        occupancy_small = omega (arith, own.fits, own.times.due_high, own.times.period_high);
        path_small = path_high mesh numbers f fair.fair_mesh own.nodes;
      }

  -- every packet of the list is in time
  pub packets_in_time : (p : ℕ) → p < packets_in numbers → InTime mesh numbers (packet_at (packets_of mesh numbers) p)
  packets_in_time p h =
      let n = numbered mesh numbers p h in
      rw (packet_at_lem mesh numbers n) (packet_in_time _ _ n.flow_in n.turn_in)
