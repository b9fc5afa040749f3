-- Walking back to the first placed packet that starts after a time.
use mathlib.Core.Path.{◌≡◌, sym, ◌∙◌, ap}
use mathlib.Core.List.{List, [], ◌∷◌, ◌++◌}
use Prim.Native.Nat.{ℕ, ◌≤◌, ◌<◌}
use native.Mathlib.Omega.{arith}
use lib.ListN.{length, get_or, take, get_or-append}
use lib.Seq.{length-take-le, get_or-take, get_or-append-add}
use Rattle.std.specs.List.{IsLastAndRest}
use Rattle.kept.specs.Kept.{start_of, spot_of}
use Rattle.kept.specs.declared.finding.Taken.{Taken}
use Rattle.kept.proofs.Spots.{spot_is}
use Rattle.gaps.specs.Sweeps.{Back}

-- where the walk stands: so many of the listed packets are left, and all behind them start after the time
pub record Backing (taken : Taken) (before : List ℕ) (time : ℕ) : Type 0 where
  pub back : Back taken (length before) time
  pub same : (i : ℕ) → i < length before → get_or before i 0 ≡ get_or taken.by i 0

-- it begins
pub back_begin : {taken : Taken} {next time : ℕ} → Back taken next time → Backing taken (take next taken.by) time
back_begin {taken} {next} {time} back =
    let front : length (take next taken.by) ≡ next = length-take-le next taken.by (omega (arith, back.within, back.kept.few, back.kept.by_long)) in
    record {
      back = rw front back;
      same = λ i h. get_or-take next taken.by i 0 (omega arith);
    }

module _ {taken : Taken} {before : List ℕ} {time : ℕ} (walk : Backing taken before time) where
  module _ (q : ℕ) (rest : List ℕ) (last : IsLastAndRest before q rest) where
    -- the last of them is the listed packet of that place
    last_is : q ≡ get_or taken.by (length rest) 0
    last_is =
        sym (get_or-append-add rest (q ∷ []) 0 0)
        ∙ ap (λ (n : ℕ). get_or (rest ++ (q ∷ [])) n 0) (omega arith)
        ∙ ap (λ (l : List ℕ). get_or l (length rest) 0) (sym last.0)
        ∙ walk.same (length rest) (omega (arith, last.1))

    last_start : start_of taken (length rest) ≡ get_or taken.times q 0
    unfolding start_of
    last_start = ap (λ (p : ℕ). get_or taken.times p 0) (sym last_is)

    -- it starts after the time: one packet further back
    pub back_on : time < get_or taken.times q 0 → Backing taken rest time
    back_on h = record {
      back = record {
        kept = walk.back.kept;
        within = omega (arith, walk.back.within, last.1);
        later = λ j l m.
            let r = walk.back.kept.rising (length rest) j l m in
            omega (arith, last_start);
      };
      same = λ i l.
          sym (get_or-append rest (q ∷ []) 0 i l)
          ∙ ap (λ (xs : List ℕ). get_or xs i 0) (sym last.0)
          ∙ walk.same i (omega (arith, last.1));
    }

    -- it starts at the time or before it: the place behind it is the first
    pub back_here : get_or taken.times q 0 ≤ time → length before ≡ spot_of taken time
    back_here h =
        sym
        (spot_is taken time (length before) walk.back.within
        (λ j l.
        let r = walk.back.kept.rising j (length rest) (omega (arith, last.1)) (omega (arith, last.1, walk.back.within)) in
        omega (arith, last_start)) walk.back.later)

  -- none is left
  pub back_all : length before ≡ 0 → length before ≡ spot_of taken time
  back_all none = sym (spot_is taken time (length before) walk.back.within (λ j l. absurd (omega arith)) walk.back.later)
