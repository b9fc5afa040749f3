-- The hyper-period is the least common multiple of the periods, and `hyper_within` refuses it exactly above the limit.
-- In order: the fold `lcm_with` (a multiple of its start and of every period, dividing every common multiple, positive);
-- the same of `hyper_of`, H, with that it is the least; then `hyper_within` on both sides of the limit, and from a fold that passes it.
use Rattle.std.proofs.Common.{Some, None}
use mathlib.Core.Path.{◌≡◌}
use mathlib.Core.List.{List, [], ◌∷◌}
use Prim.Native.Nat.{ℕ, zero, suc, ◌≤◌, ◌<◌, ◌∣◌}
use native.Mathlib.Nat.{dvd_refl, dvd_trans, one-dvd, le_of_dvd, lt_of_not-le, lt_of_lt_of_le}
use native.Mathlib.Decide.{dec_le}
use native.Mathlib.Omega.{arith}
use lib.ListN.{length, get_or}
use borrow.Author.Tests.{le-leb, lt-leb}
use Rattle.hyperperiod.specs.Divisor.{lcm_of}
use Rattle.hyperperiod.specs.Hyper.{lcm_with, hyper_of, hyper_within, most}
use Rattle.hyperperiod.proofs.Divisor.{lcm_multiple, lcm_least, lcm_positive}

-- ---- `lcm_with`

-- a claim holds of every period
abbrev pub Each : (ℕ → Type 0) → List ℕ → Type 0
Each P ps = (i : ℕ) → i < length ps → P (get_or ps i 0)

-- it is a multiple of its start
with_start : (h : ℕ) (ps : List ℕ) → h ∣ lcm_with h ps
unfolding lcm_with
with_start h [] = dvd_refl h
with_start h (t ∷ ts) = dvd_trans h (lcm_multiple h t).0 (with_start (lcm_of h t) ts)

-- it is a multiple of every period
with_multiple : (h : ℕ) (ps : List ℕ) → Each (λ t. t ∣ lcm_with h ps) ps
unfolding lcm_with
with_multiple h [] i l = absurd (omega arith)
with_multiple h (t ∷ ts) zero l = dvd_trans t (lcm_multiple h t).1 (with_start (lcm_of h t) ts)
with_multiple h (t ∷ ts) (suc i) l = with_multiple (lcm_of h t) ts i (omega arith)

-- it divides every common multiple of its start and the periods, and is positive
with_least : (h : ℕ) (ps : List ℕ) → 0 < h → Each (λ t. 0 < t) ps
    → ((m : ℕ) → h ∣ m → Each (λ t. t ∣ m) ps → lcm_with h ps ∣ m) × (0 < lcm_with h ps)
unfolding lcm_with
with_least h [] p low = (λ m d e. d, p)
with_least h (t ∷ ts) p low =
    let ih = with_least (lcm_of h t) ts (lcm_positive h t p (low 0 (omega arith))) (λ i l. low (suc i) (omega arith)) in
    (λ m d e. ih.0 m (lcm_least m h t p d (e 0 (omega arith))) (λ i l. e (suc i) (omega arith)), ih.1)

-- ---- `hyper_of`

-- H is a multiple of every period
pub hyper_multiple : (ps : List ℕ) → Each (λ t. t ∣ hyper_of ps) ps
unfolding hyper_of
hyper_multiple ps = with_multiple _ ps

module _ (ps : List ℕ) (low : Each (λ t. 0 < t) ps) where
  -- H divides every common multiple of the periods
  pub hyper_divides : (m : ℕ) → Each (λ t. t ∣ m) ps → hyper_of ps ∣ m
  unfolding hyper_of
  hyper_divides m e = (with_least 1 ps (omega arith) low).0 m (one-dvd m) e

  -- so no positive common multiple is below H
  pub hyper_least : (m : ℕ) → 0 < m → Each (λ t. t ∣ m) ps → hyper_of ps ≤ m
  hyper_least m p e = le_of_dvd p (hyper_divides m e)

  -- H is positive
  pub hyper_positive : 0 < hyper_of ps
  unfolding hyper_of
  hyper_positive = (with_least 1 ps (omega arith) low).1

-- ---- `hyper_within`

-- an H at the limit or below is the answer
pub within_is : (ps : List ℕ) → hyper_of ps ≤ most → hyper_within ps ≡ Some (hyper_of ps)
unfolding hyper_within
within_is ps h = simp (le-leb (hyper_of ps) most h)

-- an H above the limit is refused
pub within_above : (ps : List ℕ) → most < hyper_of ps → hyper_within ps ≡ None
unfolding hyper_within
within_above ps h = simp (lt-leb (hyper_of ps) most h)

-- and so is every H whose fold passes the limit on the way
pub part_above : (ps : List ℕ) → Each (λ t. 0 < t) ps → (h : ℕ) (rest : List ℕ) → lcm_with h rest ≡ hyper_of ps → most < h → hyper_within ps ≡ None
part_above ps low h rest e above =
    within_above ps (lt_of_lt_of_le above (le_of_dvd (hyper_positive ps low) (rw e at (with_start h rest))))

-- an H that is refused is above the limit
pub above_only : (ps : List ℕ) → hyper_within ps ≡ None → most < hyper_of ps
above_only ps e = elim (dec_le (hyper_of ps) most) [ yes h ↦ let z : ◌≡◌ {A = ℕ} 0 1 = cc (within_is ps h) in absurd (omega arith) | no h ↦ lt_of_not-le h ]
