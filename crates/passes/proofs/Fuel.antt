-- The bound on the passes is never what ends the search: each pass that is broken off uses up one of packets × (G − 1).
-- In order: sums that differ at one number; what is used up; that a pass which is broken off uses up one more; the equations of the
-- passes; and that more fuel changes nothing.
use mathlib.Core.Path.{◌≡◌, refl, sym, ◌∙◌, ap}
use mathlib.Core.Bool.{Bool, true, false, false≢true}
use mathlib.Core.List.{List, []}
use Prim.Native.Nat.{ℕ, zero, suc, ◌+◌, ◌-◌, ◌*◌, ◌≤◌, ◌<◌, min}
use native.Mathlib.Nat.{suc-mul}
use native.Mathlib.Decide.{ℕ_discrete}
use native.Mathlib.Omega.{arith}
use lib.ListN.{length, get_or, set, replicate, length-set, get_or-replicate}
use lib.Seq.{get_or-set_same, get_or-set_other}
use Rattle.basics.specs.Sums.{sum_of}
use Rattle.basics.proofs.Each.{Each}
use Rattle.packet.specs.Packet.{Packet}
use Rattle.settling.specs.Settling.{raised}
use Rattle.passes.specs.Pass.{pass_from, pass_over}
use Rattle.passes.specs.Passes.{passes_from}
use Rattle.passes.proofs.Along.{along, fails_length, list_each}

-- ---- sums

-- sums of equal numbers are equal
sum_same : (h k : ℕ → ℕ) (n : ℕ) → ((q : ℕ) → q < n → h q ≡ k q) → sum_of h n ≡ sum_of k n
unfolding sum_of
sum_same h k zero e = refl
sum_same h k (suc n) e = omega (arith, sum_same h k n (λ q l. e q (omega arith)), e n (omega arith))

-- sums that differ at one number
sum_change : (h k : ℕ → ℕ) (p n : ℕ) → p < n → ((q : ℕ) → (q ≡ p → ⊥) → h q ≡ k q) → sum_of h n + k p ≡ sum_of k n + h p
unfolding sum_of
sum_change h k p zero l e = absurd (omega arith)
sum_change h k p (suc n) l e =
    elim (ℕ_discrete p n) [
      | yes a ↦
          omega (arith, sum_same h k n (λ q m. e q (λ z. omega arith)), ap h a, ap k a)
      | no a ↦ omega (arith, sum_change h k p n (omega (arith, a)) e, e n (λ z. a (sym z)))
    ]

-- a sum of numbers that are each at most m
sum_most : (h : ℕ → ℕ) (m n : ℕ) → ((q : ℕ) → h q ≤ m) → sum_of h n ≤ n * m
unfolding sum_of
sum_most h m zero e = omega arith
sum_most h m (suc n) e = omega (arith, sum_most h m n e, e n, suc-mul n m)

-- a sum of zeros
sum_zero : (n : ℕ) → sum_of (λ q. 0) n ≡ 0
unfolding sum_of
sum_zero zero = refl
sum_zero (suc n) = omega (arith, sum_zero n)

-- ---- what is used up

-- of each packet's fail count, what is below G
unfoldable pub spent : ℕ → ℕ → List ℕ → ℕ
spent n g fails = sum_of (λ q. min (get_or fails q 0) (g - 1)) n

-- it is never more than there is
pub spent_most : (n g : ℕ) (fails : List ℕ) → spent n g fails ≤ n * (g - 1)
unfolding spent
spent_most n g fails = sum_most (λ q. min (get_or fails q 0) (g - 1)) (g - 1) n (λ q. omega arith)

-- at first nothing is
pub spent_none : (n g : ℕ) → spent n g (replicate n 0) ≡ 0
unfolding spent
spent_none n g =
    sum_same (λ q. min (get_or (replicate n 0) q 0) (g - 1)) (λ q. 0) n (λ q l. omega (arith, get_or-replicate {A = ℕ} n q 0 0 l))
    ∙ sum_zero n

-- what it is once a fail count has risen
spent_change : (n g p : ℕ) (fails : List ℕ) → p < n → length fails ≡ n
    → spent n g (set fails p (raised fails p)) + min (get_or fails p 0) (g - 1) ≡ spent n g fails + min (get_or fails p 0 + 1) (g - 1)
unfolding spent raised
spent_change n g p fails h l =
    omega (
      arith,
      sum_change (λ q. min (get_or (set fails p (get_or fails p 0 + 1)) q 0) (g - 1)) (λ q. min (get_or fails q 0) (g - 1)) p n h
          (λ q ne. ap (λ (c : ℕ). min c (g - 1)) (get_or-set_other fails p q (get_or fails p 0 + 1) 0 ne)),
      get_or-set_same fails p (get_or fails p 0 + 1) 0 (omega arith),
    )

-- a pass that is broken off uses up one more
pub pass_spent : (ps : List Packet) (f g n : ℕ) (rest kept fails table : List ℕ) (tries : ℕ) → Each (λ (q : ℕ). q < n) rest → length fails ≡ n
    → (pass_from ps f g rest kept fails table tries).whole ≡ false
    → spent n g (pass_from ps f g rest kept fails table tries).fails ≡ spent n g fails + 1
unfolding raised
pass_spent ps f g n =
    along ps f g
    (λ rest kept fails table tries r.
    Each (λ (q : ℕ). q < n) rest → length fails ≡ n → r.whole ≡ false → spent n g r.fails ≡ spent n g fails + 1)
    (λ kept fails table tries a l w. absurd (false≢true (sym w)))
    (λ p rest kept fails table tries t m r e ih a l w. ih a.1 l w)
    (λ p rest kept fails table tries m e h a l w. omega (arith, spent_change n g p fails a.0 l))
    (λ p rest kept fails table tries m r e h ih a l w.
    omega (arith, spent_change n g p fails a.0 l, ih a.1 (length-set fails p (raised fails p) ∙ l) w))

-- the same of a pass from its beginning
module _ (ps : List Packet) (f g : ℕ) (list fails : List ℕ) where
  pub over_spent : Each (λ (q : ℕ). q < length ps) list → length fails ≡ length ps → (pass_over ps f g list fails).whole ≡ false
      → spent (length ps) g (pass_over ps f g list fails).fails ≡ spent (length ps) g fails + 1
  unfolding pass_over
  over_spent each long w = pass_spent ps f g (length ps) list [] fails _ 0 each long w

  pub over_each : Each (λ (q : ℕ). q < length ps) list → Each (λ (q : ℕ). q < length ps) (pass_over ps f g list fails).list
  unfolding pass_over
  over_each each = list_each ps f g (λ (q : ℕ). q < length ps) list [] fails _ 0 each tt

  pub over_long : length fails ≡ length ps → length (pass_over ps f g list fails).fails ≡ length ps
  unfolding pass_over
  over_long long = fails_length ps f g list [] fails _ 0 ∙ long

-- ---- the passes

module _ (fuel : ℕ) (ps : List Packet) (f g : ℕ) (list fails : List ℕ) (passes tries : ℕ) where
  -- a pass that runs to the end is the result
  pub passes_end : (pass_over ps f g list fails).whole ≡ true → passes_from (suc fuel) ps f g list fails passes tries
      ≡ record { table = (pass_over ps f g list fails).table; passes = passes + 1; tries = tries + (pass_over ps f g list fails).tries }
  unfolding passes_from
  passes_end e = rw (e, passes_from) refl

  -- after one that is broken off a new one begins
  pub passes_on : (pass_over ps f g list fails).whole ≡ false → passes_from (suc fuel) ps f g list fails passes tries
      ≡ passes_from fuel ps f g (pass_over ps f g list fails).list (pass_over ps f g list fails).fails (passes + 1) (tries + (pass_over ps f g list fails).tries)
  unfolding passes_from
  passes_on e = rw (e, passes_from) refl

-- more fuel changes nothing, once there is enough for what is not used up
pub fuel_same : (ps : List Packet) (f g : ℕ) (a b : ℕ) (list fails : List ℕ) (passes tries : ℕ)
    → Each (λ (q : ℕ). q < length ps) list → length fails ≡ length ps
    → length ps * (g - 1) < spent (length ps) g fails + a → length ps * (g - 1) < spent (length ps) g fails + b
    → passes_from a ps f g list fails passes tries ≡ passes_from b ps f g list fails passes tries
fuel_same ps f g zero b list fails passes tries each long h k = absurd (omega (arith, spent_most (length ps) g fails))
fuel_same ps f g (suc a) zero list fails passes tries each long h k = absurd (omega (arith, spent_most (length ps) g fails))
fuel_same ps f g (suc a) (suc b) list fails passes tries each long h k =
    go (pass_over ps f g list fails).whole refl
    (fuel_same ps f g a b (pass_over ps f g list fails).list (pass_over ps f g list fails).fails (passes + 1) (tries + (pass_over ps f g list fails).tries))
  where
    go : (w : Bool) → (pass_over ps f g list fails).whole ≡ w
        → (Each (λ (q : ℕ). q < length ps) (pass_over ps f g list fails).list → length (pass_over ps f g list fails).fails ≡ length ps
        → length ps * (g - 1) < spent (length ps) g (pass_over ps f g list fails).fails + a
        → length ps * (g - 1) < spent (length ps) g (pass_over ps f g list fails).fails + b
        → passes_from a ps f g (pass_over ps f g list fails).list (pass_over ps f g list fails).fails (passes + 1) (tries + (pass_over ps f g list fails).tries)
        ≡ passes_from b ps f g (pass_over ps f g list fails).list (pass_over ps f g list fails).fails (passes + 1) (tries + (pass_over ps f g list fails).tries))
        → passes_from (suc a) ps f g list fails passes tries ≡ passes_from (suc b) ps f g list fails passes tries
    go true w ih = passes_end a ps f g list fails passes tries w ∙ sym (passes_end b ps f g list fails passes tries w)
    go false w ih =
        let more : spent (length ps) g (pass_over ps f g list fails).fails ≡ spent (length ps) g fails + 1 = over_spent ps f g list fails each long w in
        passes_on a ps f g list fails passes tries w
        ∙ ih (over_each ps f g list fails each) (over_long ps f g list fails long) (omega arith) (omega arith)
        ∙ sym (passes_on b ps f g list fails passes tries w)
