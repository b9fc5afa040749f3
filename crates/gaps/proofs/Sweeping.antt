-- The sweep: what it knows as it goes, and that where it ends is the first gap.
-- In order: when a placed packet is not in the way; what the sweep knows; the three ways on (the placed packet is over, shares no link,
-- or is in the way and is jumped past); and the two ends.
use mathlib.Core.Path.{◌≡◌, refl, sym, ◌∙◌, ap, subst}
use mathlib.Core.Bool.{Bool, true, false, not}
use mathlib.Core.List.{List}
use Prim.Native.Nat.{ℕ, ◌+◌, ◌-◌, ◌*◌, ◌/◌, ◌≤◌, ◌<◌}
use native.Mathlib.Nat.{lt_of_not-le, div-mul-le_self, mul-le-mul_right, add-mul, lt-div-mul-add, mul-div_cancel, le-div_iff_mul-le, div-lt_iff_lt-mul}
use native.Mathlib.Decide.{dec_le}
use native.Mathlib.Omega.{arith}
use borrow.Author.Tests.{lt-ltb, le-ltb}
use Rattle.basics.specs.Choose.{both}
use Rattle.basics.specs.First.{first, some}
use Rattle.basics.proofs.Choose.{both_pass, both_not}
use Rattle.basics.proofs.First.{first_is, first_none, some_at, some_none}
use Rattle.routes.specs.Share.{shares}
use Rattle.time.specs.Window.{overlaps}
use Rattle.time.proofs.Windows.{overlaps_at, before_apart, overlaps_swap}
use Rattle.load.specs.Load.{span_of, path_for}
use Rattle.load.specs.declared.traffic.Traffic.{Traffic}
use Rattle.kept.specs.Kept.{start_of, Kept}
use Rattle.kept.specs.declared.finding.Taken.{Taken}
use Rattle.std.specs.Prelude.{Option}
use Rattle.gaps.specs.Gaps.{flow_of, hits, slots_to, first_gap, gap_at, placed_in, Sweep}
use Rattle.gaps.specs.Sweeps.{time_past, EndAhead}
use Rattle.gaps.specs.declared.gap.Placed.TheVariants.{At, Nowhere}

-- ---- one placed packet

module _ (traffic : Traffic) (taken : Taken) (g j : ℕ) where
  -- its end
  abbrev pub end_at : ℕ
  end_at = start_of taken j + span_of traffic (flow_of traffic taken j)

  -- whether its path shares a link with that of flow g
  abbrev pub sharing : Bool
  sharing = shares (path_for traffic g) (path_for traffic (flow_of traffic taken j))

  -- it is over
  over_misses : (t : ℕ) → end_at ≤ t → hits traffic taken g t j ≡ false
  unfolding hits
  over_misses t h =
      ap (λ (o : Bool). both o sharing)
      (overlaps_swap t (span_of traffic g) (start_of taken j) (span_of traffic (flow_of traffic taken j)) ∙ before_apart (start_of taken j) _ t (span_of traffic g) h)

  -- it starts when the packet is over
  later_misses : (t : ℕ) → t + span_of traffic g ≤ start_of taken j → hits traffic taken g t j ≡ false
  unfolding hits
  later_misses t h = ap (λ (o : Bool). both o sharing) (before_apart t (span_of traffic g) (start_of taken j) (span_of traffic (flow_of traffic taken j)) h)

  -- it shares no link
  apart_misses : (t : ℕ) → sharing ≡ false → hits traffic taken g t j ≡ false
  unfolding hits
  apart_misses t h = both_not (overlaps t (span_of traffic g) (start_of taken j) (span_of traffic (flow_of traffic taken j))) _ h

  -- it shares a link and neither is over before the other starts
  pub meets_hits : (t : ℕ) → sharing ≡ true → t < end_at → start_of taken j < t + span_of traffic g → hits traffic taken g t j ≡ true
  unfolding hits
  meets_hits t h k l = both_pass _ _ (overlaps_at t (span_of traffic g) (start_of taken j) (span_of traffic (flow_of traffic taken j)) k l) h

-- ---- the sweep

-- number k of the placed packets is next, at time i, which is t: at no time before is there a gap, and no placed packet before k is in
-- the way from t on
pub record Sweeping (traffic : Traffic) (taken : Taken) (g f begin k t : ℕ) : Type 0 where
  pub within : k ≤ taken.count
  pub small : t ≤ 50331648
  pub i : ℕ
  pub grid : t ≡ begin + i * f
  pub blocked : (m : ℕ) → m < i → some (hits traffic taken g (begin + m * f)) taken.count ≡ true
  pub passed : (j : ℕ) → j < k → (s : ℕ) → t ≤ s → hits traffic taken g s j ≡ false

-- how far a jump goes: at least up to the end, and each step before it falls short
pub record Jump (f gap steps : ℕ) : Type 0 where
  pub reaches : gap ≤ steps * f
  pub short : (d : ℕ) → d < steps → d * f < gap
  pub tight : steps * f ≤ gap + f - 1

-- the steps that the code takes are such a jump
pub jump : (f gap : ℕ) → 0 < f → 0 < gap → Jump f gap ((gap + f - 1) / f)
jump f gap h k =
    let n : ℕ = (gap + f - 1) / f in
    let low : n * f ≤ gap + f - 1 = div-mul-le_self (gap + f - 1) f in
    record {
      reaches = let up : gap + f - 1 < n * f + f = lt-div-mul-add {a = gap + f - 1} h in omega arith;
      short = λ d l.
          let m : (d + 1) * f ≤ n * f = mul-le-mul_right f (omega arith) in
          let e : (d + 1) * f ≡ d * f + 1 * f = add-mul d 1 f in
          omega arith;
      tight = low;
    }

-- it does not go back
pub past_after : {t end f : ℕ} → EndAhead t end f → t ≤ time_past t end f
unfolding time_past
past_after past = omega arith

-- a step further on the grid
grid_add : (begin f i d : ℕ) → begin + (i + d) * f ≡ begin + i * f + d * f
grid_add begin f i d = omega (arith, add-mul i d f)

module _ {traffic : Traffic} {taken : Taken} {g f begin : ℕ} where
  -- it starts
  pub sweep_start : {marks : List (Option ℕ)} {latest from at : ℕ} → Sweep traffic marks taken g f begin latest from at → Sweeping traffic taken g f begin at from
  sweep_start s = record {
    within = s.within;
    small = s.resumes.small;
    i = s.resumes.i;
    grid = s.resumes.grid;
    blocked = s.resumes.blocked;
    passed = λ j h t l. over_misses traffic taken g j t (omega (arith, s.over j h));
  }

  module _ {k t : ℕ} (s : Sweeping traffic taken g f begin k t) where
    -- what is passed at a later time, with one more that is not in the way from then on
    passed_more : (u : ℕ) → t ≤ u → ((v : ℕ) → u ≤ v → hits traffic taken g v k ≡ false)
        → (j : ℕ) → j < k + 1 → (v : ℕ) → u ≤ v → hits traffic taken g v j ≡ false
    passed_more u h miss j l v m =
        elim (dec_le k j) [
          | yes a ↦ let e : k ≡ j = omega arith in subst (λ (n : ℕ). hits traffic taken g v n ≡ false) e (miss v m)
          | no a ↦ s.passed j (lt_of_not-le a) v (omega arith)
        ]

    -- the next is not in the way from t on
    sweep_on : k < taken.count → ((v : ℕ) → t ≤ v → hits traffic taken g v k ≡ false) → Sweeping traffic taken g f begin (k + 1) t
    sweep_on h miss = record {
      within = omega arith;
      small = s.small;
      i = s.i;
      grid = s.grid;
      blocked = s.blocked;
      passed = passed_more t (omega arith) miss;
    }

    -- the next is over
    pub sweep_over : k < taken.count → end_at traffic taken g k ≤ t → Sweeping traffic taken g f begin (k + 1) t
    sweep_over h o = sweep_on h (λ v l. over_misses traffic taken g k v (omega arith))

    -- the next shares no link
    pub sweep_apart : k < taken.count → sharing traffic taken g k ≡ false → Sweeping traffic taken g f begin (k + 1) t
    sweep_apart h a = sweep_on h (λ v l. apart_misses traffic taken g k v a)

    -- the next is in the way: every time before its end is blocked, and from there on it is over
    pub sweep_jump : k < taken.count → sharing traffic taken g k ≡ true → start_of taken k < t + span_of traffic g
        → {end : ℕ} → end ≡ end_at traffic taken g k → EndAhead t end f → Sweeping traffic taken g f begin (k + 1) (time_past t end f)
    unfolding time_past
    sweep_jump h meets starts {end} e past =
        let steps : ℕ = (end - t + f - 1) / f in
        let j : Jump f (end - t) steps = jump f (end - t) past.some_step (omega (arith, past.before)) in
        record {
          within = omega arith;
          small = omega (arith, j.tight, past.soon, past.small_step, past.before);
          i = s.i + steps;
          grid = omega (arith, s.grid, grid_add begin f s.i steps);
          blocked = λ m l.
              elim (dec_le s.i m) [
                | no a ↦ s.blocked m (lt_of_not-le a)
                | yes a ↦
                    let d : s.i + (m - s.i) ≡ m = omega arith in
                    let at : begin + m * f ≡ t + (m - s.i) * f =
                    ap (λ (n : ℕ). begin + n * f) (sym d) ∙ grid_add begin f s.i (m - s.i) ∙ ap (λ (n : ℕ). n + (m - s.i) * f) (sym s.grid) in
                    let near : (m - s.i) * f < end - t = j.short (m - s.i) (omega arith) in
                    some_at _ taken.count k h (meets_hits traffic taken g k (begin + m * f) meets (omega arith) (omega arith))
              ];
          passed = passed_more (t + steps * f) (omega arith) (λ v l. over_misses traffic taken g k v (omega (arith, j.reaches)));
        }

    -- ---- the two ends

    -- no placed packet is in the way: the time is the first gap
    sweep_gap : 0 < f → (latest : ℕ) → t ≤ latest → ((j : ℕ) → k ≤ j → j < taken.count → hits traffic taken g t j ≡ false)
        → At t (slots_to f begin t) ≡ placed_in traffic taken g f begin latest
    unfolding placed_in first_gap gap_at slots_to
    sweep_gap some_step latest h none =
        let clear : some (hits traffic taken g (begin + s.i * f)) taken.count ≡ false =
        some_none _ taken.count (λ j l.
        elim (dec_le k j) [
          | yes a ↦ rw (sym s.grid) (none j a l)
          | no a ↦ rw (sym s.grid) (s.passed j (lt_of_not-le a) t (omega arith))
        ]) in
        let below : s.i ≤ (latest - begin) / f = (le-div_iff_mul-le some_step).1 (omega (arith, s.grid)) in
        let here : s.i < (latest - begin) / f + 1 = omega arith in
        let is : first (λ m. not (some (hits traffic taken g (begin + m * f)) taken.count)) ((latest - begin) / f + 1) ≡ s.i =
        first_is _ _ s.i here (ap not clear) (λ m l. ap not (s.blocked m l)) in
        let tried : (t - begin) / f ≡ s.i = ap (λ (n : ℕ). n / f) (omega (arith, s.grid)) ∙ mul-div_cancel s.i some_step in
        rw (is, lt-ltb s.i ((latest - begin) / f + 1) here, tried) (ap (λ (n : ℕ). At n (s.i + 1)) s.grid)

    -- all placed packets are passed
    pub sweep_clear : 0 < f → (latest : ℕ) → t ≤ latest → taken.count ≤ k → At t (slots_to f begin t) ≡ placed_in traffic taken g f begin latest
    sweep_clear some_step latest h l = sweep_gap some_step latest h (λ j a b. absurd (omega arith))

    -- the next starts when the packet is over, and so do all after it
    pub sweep_early : 0 < f → (latest : ℕ) → t ≤ latest → Kept taken → t + span_of traffic g ≤ start_of taken k
        → At t (slots_to f begin t) ≡ placed_in traffic taken g f begin latest
    sweep_early some_step latest h kept l =
        sweep_gap some_step latest h (λ j a n. let r = kept.rising k j a n in later_misses traffic taken g j t (omega arith))

    -- the latest start is past
    pub sweep_none : 0 < f → (latest : ℕ) → begin ≤ latest → latest < t → Nowhere (slots_to f begin latest) ≡ placed_in traffic taken g f begin latest
    unfolding placed_in first_gap gap_at slots_to
    sweep_none some_step latest order h =
        let past : (latest - begin) / f < s.i = (div-lt_iff_lt-mul some_step).1 (omega (arith, s.grid)) in
        let is : first (λ m. not (some (hits traffic taken g (begin + m * f)) taken.count)) ((latest - begin) / f + 1) ≡ (latest - begin) / f + 1 =
        first_none _ _ (λ m l. ap not (s.blocked m (omega arith))) in
        rw (is, le-ltb ((latest - begin) / f + 1) ((latest - begin) / f + 1) (omega arith)) refl
