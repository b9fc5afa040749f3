-- Laws of sums over the numbers below n.
-- In order: a part with all before it is within the sum, so each part is at most the whole; then the numbers below a sum, each of which
-- lies in a part, at an offset from the part's start; then counts.
use mathlib.Core.Path.{◌≡◌, refl, ap}
use mathlib.Core.Bool.{Bool, true, false}
use Prim.Native.Nat.{ℕ, zero, suc, ◌+◌, ◌-◌, ◌≤◌, ◌<◌}
use native.Mathlib.Nat.{le_antisymm, lt_of_not-le, le_of_suc-le-suc}
use native.Mathlib.Decide.{dec_le}
use native.Mathlib.Numerals.{add-one}
use native.Mathlib.Omega.{arith}
use Rattle.basics.specs.Choose.{as_number}
use Rattle.basics.specs.Sums.{sum_of, count_of}

-- ---- parts and the whole

module _ (f : ℕ → ℕ) where
  -- all before part i, and part i, are within the sum
  pub sum_part : (i n : ℕ) → i < n → sum_of f i + f i ≤ sum_of f n
  unfolding sum_of
  sum_part i zero h = absurd (omega arith)
  sum_part i (suc n) h =
      elim (dec_le n i) [
        | yes a ↦ rw (le_antisymm (le_of_suc-le-suc h) a) (omega arith)
        | no a ↦ omega (arith, sum_part i n (lt_of_not-le a))
      ]

  -- each part is at most the whole
  pub part_whole : (i n : ℕ) → i < n → f i ≤ sum_of f n
  part_whole i n h = omega (arith, sum_part i n h)

-- ---- the numbers below a sum

-- number p below the sum lies in a part, at an offset from that part's start
pub record InPart (f : ℕ → ℕ) (n p : ℕ) : Type 0 where
  pub part : ℕ
  pub offset : ℕ
  pub part_in : part < n
  pub offset_in : offset < f part
  pub number : p ≡ sum_of f part + offset

module _ (f : ℕ → ℕ) where
  -- every number below the sum lies in a part
  pub in_part : (n p : ℕ) → p < sum_of f n → InPart f n p
  unfolding sum_of
  in_part zero p h = absurd (omega arith)
  in_part (suc n) p h = elim (dec_le (sum_of f n) p) [ yes a ↦ last a | no a ↦ before (in_part n p (lt_of_not-le a)) ]
    where
      last : sum_of f n ≤ p → InPart f (suc n) p
      last a = record {
        part = n;
        offset = p - sum_of f n;
        part_in = omega arith;
        offset_in = omega arith;
        number = omega arith;
      }

      before : InPart f n p → InPart f (suc n) p
      before w = record {
        part = w.part;
        offset = w.offset;
        part_in = omega (arith, w.part_in);
        offset_in = w.offset_in;
        number = w.number;
      }

-- ---- counts

-- one more is counted
pub count_next : (test : ℕ → Bool) (p : ℕ) → count_of test (p + 1) ≡ count_of test p + as_number (test p)
unfolding count_of sum_of
count_next test p = ap (sum_of (λ i. as_number (test i))) (add-one p)

-- nothing is counted at first
pub count_none : (test : ℕ → Bool) → count_of test 0 ≡ 0
unfolding count_of sum_of
count_none test = refl

-- where no number passes a test, none is counted
pub none_counted : (test : ℕ → Bool) (n : ℕ) → ((q : ℕ) → q < n → test q ≡ false) → count_of test n ≡ 0
unfolding count_of sum_of
none_counted test zero e = refl
none_counted test (suc n) e = omega (arith, none_counted test n (λ q h. e q (omega arith)), ap as_number (e n (omega arith)))

-- counts of equal tests are equal
pub count_same : (test other : ℕ → Bool) (n : ℕ) → ((q : ℕ) → q < n → test q ≡ other q) → count_of test n ≡ count_of other n
unfolding count_of sum_of
count_same test other zero e = refl
count_same test other (suc n) e =
    omega (arith, count_same test other n (λ q h. e q (omega arith)), ap as_number (e n (omega arith)))

-- a count is at most what is counted over
pub count_most : (test : ℕ → Bool) (n : ℕ) → count_of test n ≤ n
unfolding count_of sum_of
count_most test zero = omega arith
count_most test (suc n) = omega (arith, count_most test n, one (test n))
  where
    one : (b : Bool) → as_number b ≤ 1
    one true = omega arith
    one false = omega arith
