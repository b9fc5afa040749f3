-- The passes as the code takes them: what is known before each, after one that is broken off, and at the end.
use mathlib.Core.Path.{◌≡◌, sym, ◌∙◌, ap, ap₂, subst}
use mathlib.Core.Bool.{true, false}
use mathlib.Core.List.{List, [], ◌∷◌}
use Prim.Native.Nat.{ℕ, suc, ◌+◌, ◌-◌, ◌*◌, ◌≤◌, ◌<◌}
use native.Mathlib.Nat.{mul-le-mul}
use native.Mathlib.Omega.{arith}
use lib.ListN.{length, get_or, take, replicate, length-replicate}
use lib.Seq.{length-slice, length-take-le, get_or-take, get_or-drop}
use Rattle.basics.proofs.Each.{Each}
use Rattle.basics.proofs.Lists.{fill_at}
use Rattle.packet.specs.Packet.{Packet}
use Rattle.order.specs.Order.{occurs}
use Rattle.std.specs.Prelude.{Ok, Err}
use Rattle.placing.specs.Traffic.{packets_held}
use Rattle.load.specs.declared.traffic.Traffic.{Traffic}
use Rattle.placing.proofs.Bridging.{packets_count, held_in}
use Rattle.settling.specs.declared.taking.State.{State}
use Rattle.passes.specs.Pass.{Pass, pass_over}
use Rattle.passes.specs.Passes.{passes_from, ceiling, search_from}
use Rattle.passes.specs.Stand.{list_of, fails_of, TableOf, Ready, Carried, Ran}
use Rattle.passes.specs.Search.{found_of, Searches, Searched}
use Rattle.passes.specs.declared.walk.Passed.{Passed}
use Rattle.passes.proofs.Running.{take_replicate}
use Rattle.passes.proofs.Fuel.{spent, spent_most, spent_none, over_spent, passes_end, passes_on}

-- what holds at each place of a list holds of each of it
each_from : (P : ℕ → Type 0) (xs : List ℕ) → ((i : ℕ) → i < length xs → P (get_or xs i 0)) → Each P xs
each_from P [] h = tt
each_from P (x ∷ xs) h = (h 0 (omega arith), each_from P xs (λ i l. h (suc i) (omega arith)))

-- every packet of the list is a packet
list_in : (ps : List Packet) (g : ℕ) (s : State) → length ps ≤ 1024 → Carried ps g s → Each (λ (q : ℕ). q < length ps) (list_of (length ps) s)
unfolding list_of
list_in ps g s few c =
    each_from (λ (q : ℕ). q < length ps) (list_of (length ps) s) (λ i h.
    let l : s.base + i < length ps = omega (arith, length-slice s.base (length ps) s.order (omega (arith, c.order_long))) in
    subst (λ (q : ℕ). q < length ps) (sym (get_or-drop s.base (take (length ps) s.order) i 0 ∙ get_or-take (length ps) s.order (s.base + i) 0 l))
    (c.numbers (s.base + i) l))

-- there are as many fail counts as packets
fails_length : {ps : List Packet} {g : ℕ} (s : State) → length ps ≤ 1024 → Carried ps g s → length (fails_of (length ps) s) ≡ length ps
unfolding fails_of
fails_length {ps} s few c = length-take-le (length ps) s.fails (omega (arith, c.fails_long))

-- where the search stands before a pass: so many passes were begun, each used up one, and what is left to do gives the result
pub record Searching (t : Traffic) (f g : ℕ) (list : List ℕ) (s : State) (passes tries : ℕ) : Type 0 where
  pub ready : Ready t f g
  pub carried : Carried (packets_held t) g s
  pub used : spent (length (packets_held t)) g (fails_of (length (packets_held t)) s) ≡ passes
  pub same : passes_from (ceiling (length (packets_held t)) g - passes) (packets_held t) f g (list_of (length (packets_held t)) s) (fails_of (length (packets_held t)) s) passes tries
      ≡ search_from (take t.count list) (packets_held t) f g
  pub bounded : tries ≤ passes * 34359738368

-- it starts
pub searching_start : {t : Traffic} {f g : ℕ} {list fails : List ℕ} → Searches t f g list → fails ≡ replicate 1024 0
    → Searching t f g list record { order = list; fails = fails; base = 0 } 0 0
unfolding search_from list_of fails_of
searching_start {t} {f} {g} {list} {fails} asks z =
    let ps = packets_held t in
    let count = packets_count t in
    let list_is : take (length ps) list ≡ take t.count list = ap (λ (k : ℕ). take k list) count in
    let unfailed : take (length ps) fails ≡ replicate (length ps) 0 =
    ap (take (length ps)) z ∙ take_replicate (length ps) 1024 0 (held_in t asks.ready.few).few in
    let all : ceiling (length ps) g - 0 ≡ ceiling (length ps) g = omega arith in
    record {
      ready = asks.ready;
      carried = record {
        order_long = asks.listing.long;
        fails_long = ap length z ∙ length-replicate {A = ℕ} 1024 0;
        within = omega arith;
        numbers = λ j h. omega (arith, asks.listing.numbers j (omega (arith, count)), count);
        once = λ q. omega (arith, asks.listing.once q, ap (occurs q) list_is);
        below = λ q h. omega (arith, ap (λ (xs : List ℕ). get_or xs q 0) z, fill_at {X = ℕ} 0 1024 q, asks.ready.low);
      };
      used = ap (spent (length ps) g) unfailed ∙ spent_none (length ps) g;
      same =
          ap (λ (k : ℕ). passes_from k ps f g (take (length ps) list) (take (length ps) fails) 0 0) all
          ∙ ap₂ (λ (l c : List ℕ). passes_from (ceiling (length ps) g) ps f g l c 0 0) list_is unfailed;
      bounded = omega arith;
    }

module _ {t : Traffic} {f g : ℕ} {list : List ℕ} {s : State} {passes tries : ℕ} (search : Searching t f g list s passes tries) where
  -- fewer passes were begun than there can be
  passes_few : passes ≤ length (packets_held t) * (g - 1)
  passes_few = omega (arith, search.used, spent_most (length (packets_held t)) g (fails_of (length (packets_held t)) s))

  -- in numbers, and as the code's measure counts them
  pub passes_least : passes ≤ 1024 * 15
  passes_least =
      let high : g - 1 ≤ 15 = omega (arith, search.ready.high) in
      omega (arith, passes_few, mul-le-mul (held_in t search.ready.few).few high)

  pub passes_left : passes ≤ t.count * (g - 1)
  passes_left = omega (arith, passes_few, ap (λ (k : ℕ). k * (g - 1)) (packets_count t))

  left : ceiling (length (packets_held t)) g - passes ≡ suc (ceiling (length (packets_held t)) g - (passes + 1))
  unfolding ceiling
  left = omega (arith, passes_few)

  module _ {after : State} {r : Passed} (ran : Ran (packets_held t) f g s after r) where
    -- the pass as the definition takes it
    abbrev over : Pass
    over = pass_over (packets_held t) f g (list_of (length (packets_held t)) s) (fails_of (length (packets_held t)) s)

    -- one pass was broken off
    pub searching_on : {times : List ℕ} → r.table ≡ Err times → Searching t f g list after (passes + 1) (tries + r.tries)
    unfolding TableOf
    searching_on {times} w =
        let ps = packets_held t in
        let few = (held_in t search.ready.few).few in
        let ends : (over.whole ≡ false) × (take (length (packets_held t)) times ≡ over.table) × (length times ≡ 1024) = rw w at ran.table in
        let broken = ends.0 in
        let front : length (fails_of (length ps) s) ≡ length ps = fails_length s few search.carried in
        record {
          ready = search.ready;
          carried = ran.carried;
          used =
              ap (spent (length ps) g) ran.fails
              ∙ over_spent ps f g (list_of (length ps) s) (fails_of (length ps) s) (list_in ps g s few search.carried) front broken
              ∙ ap (λ (k : ℕ). k + 1) search.used;
          same =
              ap₂ (λ (l c : List ℕ). passes_from (ceiling (length ps) g - (passes + 1)) ps f g l c (passes + 1) (tries + r.tries)) ran.list ran.fails
              ∙ ap (λ (k : ℕ). passes_from (ceiling (length ps) g - (passes + 1)) ps f g over.list over.fails (passes + 1) (tries + k)) ran.tries
              ∙ sym (passes_on (ceiling (length ps) g - (passes + 1)) ps f g (list_of (length ps) s) (fails_of (length ps) s) passes tries broken)
              ∙ ap (λ (k : ℕ). passes_from k ps f g (list_of (length ps) s) (fails_of (length ps) s) passes tries) (sym left)
              ∙ search.same;
          bounded = omega (arith, search.bounded, ran.bounded);
        }

    -- one pass ran to the end
    pub searching_end : {times : List ℕ} → r.table ≡ Ok times → Searched t f g list record { times = times; passes = passes + 1; tries = tries + r.tries }
    unfolding TableOf found_of
    searching_end {times} w =
        let ps = packets_held t in
        let ends : (over.whole ≡ true) × (take (length (packets_held t)) times ≡ over.table) × (length times ≡ 1024) = rw w at ran.table in
        record {
          same =
              ap (λ (n : ℕ). record { table = take n times; passes = passes + 1; tries = tries + r.tries }) (sym (packets_count t))
              ∙ ap₂ (λ (table : List ℕ) (k : ℕ). record { table = table; passes = passes + 1; tries = tries + k }) ends.1 ran.tries
              ∙ sym (passes_end (ceiling (length ps) g - (passes + 1)) ps f g (list_of (length ps) s) (fails_of (length ps) s) passes tries ends.0)
              ∙ ap (λ (k : ℕ). passes_from k ps f g (list_of (length ps) s) (fails_of (length ps) s) passes tries) (sym left)
              ∙ search.same;
          times_long = ends.2;
        }
