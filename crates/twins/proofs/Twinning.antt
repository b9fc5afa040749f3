-- A packet that goes behind its twin misses no gap: what was in the twin's way is in its way too, and then the twin itself is.
-- In order: what a twin is; what is in its way; and the time from which on a gap is sought.
use mathlib.Core.Path.{◌≡◌, refl, sym, ◌∙◌, ap, subst}
use mathlib.Core.Bool.{Bool, true, false, not, false≢true}
use mathlib.Core.List.{List}
use Prim.Native.Nat.{ℕ, ◌+◌, ◌-◌, ◌*◌, ◌/◌, ◌≤◌, ◌<◌}
use native.Mathlib.Nat.{lt_of_not-le, add-mul}
use native.Mathlib.Decide.{dec_le}
use native.Mathlib.Omega.{arith}
use lib.Pointwise.{pointwise}
use lib.Dec.{ltb, leb, eqb}
use lib.ListN.{length, get_or}
use lib.Seq.{ext_get_or}
use borrow.Author.Tests.{eqb-true, eq-eqb, leb-true, ltb-true, lt-ltb, le-ltb, le-leb, lt-leb}
use Rattle.std.specs.Option.{SomeIff}
use Rattle.basics.specs.Choose.{both, choose}
use Rattle.basics.specs.First.{first, some}
use Rattle.basics.proofs.Choose.{both_pass, both_first, both_second, both_not}
use Rattle.basics.proofs.First.{first_passes, some_at, some_first, every_at, every_all}
use Rattle.routes.specs.Share.{shares}
use Rattle.routes.proofs.Common.{has_at, shares_at}
use Rattle.time.specs.Window.{overlaps}
use Rattle.time.proofs.Windows.{overlaps_longer}
use Rattle.hyperperiod.specs.Hyper.{most}
use Rattle.packet.specs.Table.{none}
use Rattle.load.specs.Load.{flow_at, span_of, path_in, path_for, release_at}
use Rattle.load.specs.declared.traffic.Traffic.{Traffic}
use Rattle.kept.specs.Kept.{start_of}
use Rattle.kept.specs.declared.finding.Taken.{Taken}
use Rattle.load.specs.declared.entries.FlowEntry.{FlowEntry}
use Rattle.std.specs.Prelude.{Option, None, Some}
use Rattle.std.proofs.lemmas.Bool.Decides.{same_from_decides, Decides-at}
use Rattle.std.specs.Bool.{Decides}
use Rattle.std.proofs.lemmas.Slice.Eq.{bytes_eq-Decides}
use Rattle.std.specs.Str.{bytes_eq}
use Rattle.std.proofs.lemmas.Option.{none-some}
use Rattle.gaps.specs.Gaps.{flow_of, hits, Resumes}
use Rattle.gaps.specs.Sweeps.{time_past}
use Rattle.gaps.proofs.Sweeping.{Jump, jump, meets_hits}
use Rattle.twins.specs.Twins.{same_path, is_twin, twin_back, twin_at, behind, resume_at, Resume, Stood}

-- two flows have the same path where the test finds so
pub paths_same : (flows : List FlowEntry) (g h : ℕ) → same_path flows g h ≡ true → path_in flows g ≡ path_in flows h
unfolding same_path
paths_same flows g h e =
    ext_get_or 0 (path_in flows g) (path_in flows h) (eqb-true _ _ (both_first _ _ e)) (λ a l.
    eqb-true _ _ (every_at (λ a. eqb (get_or (path_in flows g) a 0) (get_or (path_in flows h) a 0)) (length (path_in flows g))
    (both_second (eqb (length (path_in flows g)) (length (path_in flows h))) _ e) a l))

-- and it finds so where they have
pub same_paths : (flows : List FlowEntry) (g h : ℕ) → path_in flows g ≡ path_in flows h → same_path flows g h ≡ true
unfolding same_path
same_paths flows g h e =
    rw e (both_pass _ _ (eq-eqb _ _ refl) (every_all _ _ (λ a l. eq-eqb _ _ refl)))

-- so finds the comparison of their links
pub path_test : (traffic : Traffic) (g h : ℕ) {a b : List ℕ} {same : Bool} → a ≡ path_for traffic g → b ≡ path_for traffic h → same ≡ pointwise eqb a b
    → same ≡ same_path traffic.flows g h
path_test traffic g h {a} {b} {same} e f r =
    let links : Decides same (a ≡ b) = Decides-at same (bytes_eq a b) r (bytes_eq-Decides a b) in
    same_from_decides same (same_path traffic.flows g h) (rw (e, f) at links) (paths_same traffic.flows g h, same_paths traffic.flows g h)

-- ---- a twin

module _ (traffic : Traffic) (taken : Taken) (p q : ℕ) (e : is_twin traffic taken p q ≡ true) where
  -- the tests after the first
  rest : both (eqb (release_at traffic q) (release_at traffic p))
      (both (leb (span_of traffic (flow_at traffic q)) (span_of traffic (flow_at traffic p))) (same_path traffic.flows (flow_at traffic p) (flow_at traffic q))) ≡ true
  unfolding is_twin
  rest = both_second (not (eqb (get_or taken.times q 0) none)) _ e

  -- it is placed
  pub twin_timed : get_or taken.times q 0 ≡ none → ⊥
  unfolding is_twin
  twin_timed z = false≢true (sym (ap not (eq-eqb (get_or taken.times q 0) none z)) ∙ both_first _ _ e)

  -- it has the same release
  twin_release : release_at traffic q ≡ release_at traffic p
  twin_release = eqb-true _ _ (both_first _ _ rest)

  -- and no longer occupancy
  twin_span : span_of traffic (flow_at traffic q) ≤ span_of traffic (flow_at traffic p)
  twin_span = leb-true _ _ (both_first _ _ (both_second (eqb (release_at traffic q) (release_at traffic p)) _ rest))

  -- and the same path
  twin_path : path_for traffic (flow_at traffic p) ≡ path_for traffic (flow_at traffic q)
  twin_path =
      paths_same traffic.flows (flow_at traffic p) (flow_at traffic q)
      (both_second (leb (span_of traffic (flow_at traffic q)) (span_of traffic (flow_at traffic p))) _ (both_second (eqb (release_at traffic q) (release_at traffic p)) _ rest))

-- a twin that is found is one, and stands before
twin_back_found : (traffic : Traffic) (taken : Taken) (p q : ℕ) (back : Option ℕ) → twin_back traffic taken p back ≡ Some q
    → (q < p) × (is_twin traffic taken p q ≡ true)
unfolding twin_back
twin_back_found traffic taken p q None e = absurd (none-some q e)
twin_back_found traffic taken p q (Some back) e = go (both (ltb 0 back) (both (leb back p) (is_twin traffic taken p (p - back)))) refl e
  where
    go : (b : Bool) → both (ltb 0 back) (both (leb back p) (is_twin traffic taken p (p - back))) ≡ b → choose b (Some (p - back)) None ≡ Some q
        → (q < p) × (is_twin traffic taken p q ≡ true)
    go false h z = absurd (none-some q z)
    go true h z =
        let some_back = ltb-true 0 back (both_first _ _ h) in
        let within = leb-true back p (both_first _ _ (both_second (ltb 0 back) _ h)) in
        let here : p - back ≡ q = cc in
        (omega arith, subst (λ (r : ℕ). is_twin traffic taken p r ≡ true) here (both_second (leb back p) _ (both_second (ltb 0 back) _ h)))

pub twin_found : (traffic : Traffic) (taken : Taken) (p q : ℕ) → twin_at traffic taken p ≡ Some q → (q < p) × (is_twin traffic taken p q ≡ true)
unfolding twin_at
twin_found traffic taken p q e = twin_back_found traffic taken p q (get_or traffic.back (flow_at traffic p) None) e

-- counting back from a packet: it stands so many before, or there are not so many
pub counted : {r : Option ℕ} {back p q : ℕ} → SomeIff r (back ≤ p) (p - back) → r ≡ Some q → (back ≤ p) × (q ≡ p - back)
counted {r} {back} {p} s e = rw e at s

pub too_far : {r : Option ℕ} {back p : ℕ} → SomeIff r (back ≤ p) (p - back) → r ≡ None → back ≤ p → ⊥
too_far {r} {back} {p} s e = rw e at s

module _ (traffic : Traffic) (taken : Taken) {p back q : ℕ} where
  -- what is found: the packet, where it is a twin
  pub back_twin : (back ≤ p) × (q ≡ p - back) → q < p → is_twin traffic taken p q ≡ true → twin_back traffic taken p (Some back) ≡ Some q
  unfolding twin_back
  back_twin c h e = rw (lt-ltb 0 back (omega (arith, c.0, c.1)), le-leb back p c.0, sym c.1, e) refl

  -- nothing, where it is none
  pub back_other : (back ≤ p) × (q ≡ p - back) → is_twin traffic taken p q ≡ false → twin_back traffic taken p (Some back) ≡ None
  unfolding twin_back
  back_other c e = ap (λ (b : Bool). choose b (Some (p - back)) None) (both_not (ltb 0 back) _ (both_not (leb back p) _ (rw (sym c.1) e)))

  -- nor where it is the packet itself
  pub back_itself : (back ≤ p) × (q ≡ p - back) → p ≤ q → twin_back traffic taken p (Some back) ≡ None
  unfolding twin_back
  back_itself c h = rw (le-ltb 0 back (omega (arith, c.0, c.1))) refl

-- nor where there are not so many
pub back_none : (traffic : Traffic) (taken : Taken) {p back : ℕ} → (back ≤ p → ⊥) → twin_back traffic taken p (Some back) ≡ None
unfolding twin_back
back_none traffic taken {p} {back} far = ap (λ (b : Bool). choose b (Some (p - back)) None) (both_not (ltb 0 back) _ (rw (lt-leb back p (lt_of_not-le far)) refl))

-- ---- what is in its way

module _ (traffic : Traffic) (taken : Taken) (g h : ℕ) (path : path_for traffic g ≡ path_for traffic h) (span : span_of traffic h ≤ span_of traffic g) where
  -- what a packet of one flow hits, one of the other hits too
  hits_too : (t j : ℕ) → hits traffic taken h t j ≡ true → hits traffic taken g t j ≡ true
  unfolding hits
  hits_too t j e =
      both_pass _ _ (overlaps_longer t (span_of traffic h) (span_of traffic g) (start_of taken j) (span_of traffic (flow_of traffic taken j)) span (both_first _ _ e))
      (ap (λ (links : List ℕ). shares links (path_for traffic (flow_of traffic taken j))) path
      ∙ both_second (overlaps t (span_of traffic h) (start_of taken j) (span_of traffic (flow_of traffic taken j))) _ e)

  -- so where there is no gap for the one, there is none for the other
  blocked_too : (t : ℕ) → some (hits traffic taken h t) taken.count ≡ true → some (hits traffic taken g t) taken.count ≡ true
  blocked_too t e =
      let l = some_first (hits traffic taken h t) taken.count e in
      some_at _ taken.count (first (hits traffic taken h t) taken.count) l (hits_too t _ (first_passes (hits traffic taken h t) taken.count l))

-- ---- the time from which on a gap is sought

module _ {traffic : Traffic} {taken : Taken} {f p : ℕ} (asks : Resume traffic taken f p)
    (soon : release_at traffic p ≤ most) (some_links : 0 < length (path_for traffic (flow_at traffic p)))
    (stood : (q : ℕ) → q < p → (get_or taken.times q 0 ≡ none → ⊥) → Stood traffic taken f q) where
  -- at its release
  at_release : Resumes traffic taken (flow_at traffic p) f (release_at traffic p) (release_at traffic p)
  at_release = record { small = omega arith; i = 0; grid = omega arith; blocked = λ m h. absurd (omega arith) }

  -- a packet's path shares a link with itself
  own_shares : shares (path_for traffic (flow_at traffic p)) (path_for traffic (flow_at traffic p)) ≡ true
  own_shares =
      let here = has_at (path_for traffic (flow_at traffic p)) _ 0 some_links refl in
      shares_at _ _ _ here here

  module _ (q : ℕ) (before : q < p) (e : is_twin traffic taken p q ≡ true) where
    other : flow_at traffic q < 64
    other = asks.loaded.flows q (omega (arith, asks.packet))

    path : path_for traffic (flow_at traffic p) ≡ path_for traffic (flow_at traffic q)
    path = twin_path traffic taken p q e

    span : span_of traffic (flow_at traffic q) ≤ span_of traffic (flow_at traffic p)
    span = twin_span traffic taken p q e

    twin : Stood traffic taken f q
    twin = stood q before (twin_timed traffic taken p q e)

    -- behind the twin
    behind_twin : Resumes traffic taken (flow_at traffic p) f (release_at traffic p) (time_past (get_or taken.times q 0) (get_or taken.times q 0 + span_of traffic (flow_at traffic q)) f)
    unfolding time_past start_of flow_of
    behind_twin =
        let begin : ℕ = release_at traffic p in
        let s : ℕ = get_or taken.times q 0 in
        let gap : ℕ = span_of traffic (flow_at traffic q) in
        let lasts : 0 < span_of traffic (flow_at traffic q) = asks.lasting q before in
        let end_gap : get_or taken.times q 0 + span_of traffic (flow_at traffic q) - get_or taken.times q 0 ≡ span_of traffic (flow_at traffic q) = omega arith in
        let steps : ℕ = (get_or taken.times q 0 + span_of traffic (flow_at traffic q) - get_or taken.times q 0 + f - 1) / f in
        let j : Jump f (get_or taken.times q 0 + span_of traffic (flow_at traffic q) - get_or taken.times q 0) steps =
        jump f (get_or taken.times q 0 + span_of traffic (flow_at traffic q) - get_or taken.times q 0) asks.some_step (omega arith) in
        let same : release_at traffic q ≡ release_at traffic p = twin_release traffic taken p q e in
        let small = asks.soon q before (twin_timed traffic taken p q e) in
        let short = asks.loaded.spans (flow_at traffic q) other in
        record {
          small = omega (arith, j.tight, asks.small_step, small, short, end_gap);
          i = twin.i + steps;
          grid = omega (arith, twin.grid, same, add-mul twin.i steps f);
          blocked = λ m h.
              elim (dec_le twin.i m) [
                | no a ↦
                    blocked_too traffic taken (flow_at traffic p) (flow_at traffic q) path span (release_at traffic p + m * f)
                    (subst (λ (r : ℕ). some (hits traffic taken (flow_at traffic q) (r + m * f)) taken.count ≡ true) same (twin.tight m (lt_of_not-le a)))
                | yes a ↦
                    let d : twin.i + (m - twin.i) ≡ m = omega arith in
                    let at : m * f ≡ twin.i * f + (m - twin.i) * f = ap (λ (n : ℕ). n * f) (sym d) ∙ add-mul twin.i (m - twin.i) f in
                    let near : (m - twin.i) * f < get_or taken.times q 0 + span_of traffic (flow_at traffic q) - get_or taken.times q 0 = j.short (m - twin.i) (omega arith) in
                    let start : get_or taken.times (get_or taken.by twin.j 0) 0 ≡ get_or taken.times q 0 = ap (λ (r : ℕ). get_or taken.times r 0) twin.here in
                    let meets : shares (path_for traffic (flow_at traffic p)) (path_for traffic (flow_at traffic (get_or taken.by twin.j 0))) ≡ true =
                    ap (λ (r : ℕ). shares (path_for traffic (flow_at traffic p)) (path_for traffic (flow_at traffic r))) twin.here
                    ∙ ap (shares (path_for traffic (flow_at traffic p))) (sym path) ∙ own_shares in
                    let length_is : span_of traffic (flow_at traffic (get_or taken.by twin.j 0)) ≡ span_of traffic (flow_at traffic q) = ap (λ (r : ℕ). span_of traffic (flow_at traffic r)) twin.here in
                    some_at _ taken.count twin.j twin.within
                    (meets_hits traffic taken (flow_at traffic p) twin.j (release_at traffic p + m * f) meets
                    (omega (arith, twin.grid, same, at, near, start, length_is, end_gap))
                    (omega (arith, twin.grid, same, at, start, span, lasts)))
              ];
        }

  -- either
  pub resumes : Resumes traffic taken (flow_at traffic p) f (release_at traffic p) (resume_at traffic taken f p)
  unfolding resume_at behind
  resumes = go (twin_at traffic taken p) refl
    where
      go : (twin : Option ℕ) → twin_at traffic taken p ≡ twin
          → Resumes traffic taken (flow_at traffic p) f (release_at traffic p) (behind traffic taken f p twin)
      go None e = at_release
      go (Some q) e = let t = twin_found traffic taken p q e in behind_twin q t.0 t.1
