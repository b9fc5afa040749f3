-- Marks tell exactly which links are on the path that was marked last.
-- In order: what stamping leaves; that no mark lies, at first and after stamping; and that the marks of the stamped path are exact.
use mathlib.Core.Path.{◌≡◌, refl, sym, ◌∙◌, ap}
use mathlib.Core.Bool.{true, false≢true}
use mathlib.Core.List.{List}
use Rattle.std.specs.Prelude.{Option, None, Some}
use Prim.Native.Nat.{ℕ, zero, suc, ◌≤◌, ◌<◌}
use native.Mathlib.Decide.{ℕ_discrete}
use native.Mathlib.Omega.{arith}
use lib.ListN.{length, get_or, replicate, length-set, length-replicate}
use lib.Seq.{get_or-set_same, get_or-set_other}
use Rattle.std.specs.Option.{option_eq}
use Rattle.std.proofs.lemmas.Option.{none-some}
use lib.Dec.{eqb}
use borrow.Author.Tests.{eqb-true, eq-eqb}
use Rattle.basics.proofs.Choose.{same_test}
use Rattle.basics.proofs.Lists.{fill_at}
use Rattle.routes.specs.Share.{has}
use Rattle.load.specs.declared.entries.FlowEntry.{FlowEntry}
use Rattle.routes.proofs.Common.{has_at, has_place}
use Rattle.mesh.specs.Link.{all_links}
use Rattle.load.specs.Load.{path_in, Paths}
use Rattle.load.proofs.Paths.{path_number}
use Rattle.marks.specs.Marks.{stamped, has_mark, Honest, Marked}

-- at first no mark is made
pub honest_start : (flows : List FlowEntry) {marks : List (Option ℕ)} → marks ≡ replicate all_links None → Honest flows marks
honest_start flows {marks} e = record {
  long = ap length e ∙ length-replicate {A = Option ℕ} all_links None;
  tells = λ g link h m. let none : get_or marks link None ≡ None = ap (λ (xs : List (Option ℕ)). get_or xs link None) e ∙ fill_at {X = Option ℕ} None all_links link in absurd (none-some g (sym none ∙ m));
}

-- a mark is that of flow g where it tells so
flow_marks : (g : ℕ) (m : Option ℕ) → option_eq eqb m (Some g) ≡ true → m ≡ Some g
flow_marks g None e = absurd (false≢true e)
flow_marks g (Some h) e = ap Some (eqb-true h g e)

-- and tells so where it is
marks_same : (g : ℕ) (m : Option ℕ) → m ≡ Some g → option_eq eqb m (Some g) ≡ true
marks_same g m e = rw e (eq-eqb g g refl)

module _ (path : List ℕ) (g : ℕ) (marks : List (Option ℕ)) (numbers : (a : ℕ) → a < length path → get_or path a 0 < all_links)
    (long : length marks ≡ all_links) where
  -- there are as many marks as before
  stamped_length : (n : ℕ) → length (stamped path g n marks) ≡ all_links
  unfolding stamped
  stamped_length zero = long
  stamped_length (suc n) = length-set (stamped path g n marks) (get_or path n 0) (Some g) ∙ stamped_length n

  -- the mark of each of the links is made
  stamped_made : (n a : ℕ) → n ≤ length path → a < n → get_or (stamped path g n marks) (get_or path a 0) None ≡ Some g
  unfolding stamped
  stamped_made zero a l h = absurd (omega arith)
  stamped_made (suc n) a l h =
      elim (ℕ_discrete (get_or path a 0) (get_or path n 0)) [
        | yes e ↦
            rw e
            (get_or-set_same (stamped path g n marks) (get_or path n 0) (Some g) None
            (omega (arith, stamped_length n, numbers n (omega arith))))
        | no ne ↦
            let other : a ≡ n → ⊥ = λ e. ne (ap (λ (k : ℕ). get_or path k 0) e) in
            get_or-set_other (stamped path g n marks) (get_or path n 0) (get_or path a 0) (Some g) None ne
            ∙ stamped_made n a (omega arith) (omega (arith, other))
      ]

module _ {flows : List FlowEntry} (marks : List (Option ℕ)) (good : Paths flows) (g : ℕ) (flow : g < 64) (honest : Honest flows marks) where
  -- its path
  abbrev own : List ℕ
  own = path_in flows g

  -- a mark that is made is that of a link of the path
  stamped_tells : (n : ℕ) → n ≤ length own → (h link : ℕ) → h < 64 → get_or (stamped own g n marks) link None ≡ Some h
      → has (path_in flows h) link ≡ true
  unfolding stamped
  stamped_tells zero l h link k e = honest.tells h link k e
  stamped_tells (suc n) l h link k e =
      elim (ℕ_discrete link (get_or own n 0)) [
        | yes a ↦
            let made : get_or (stamped own g (suc n) marks) link None ≡ Some g =
            ap (λ (k : ℕ). get_or (stamped own g (suc n) marks) k None) a
            ∙ get_or-set_same (stamped own g n marks) (get_or own n 0) (Some g) None
            (omega (arith, stamped_length own g marks (path_number good g flow) honest.long n, path_number good g flow n (omega arith))) in
            let same : h ≡ g = cc in
            rw (same, a) (has_at own (get_or own n 0) n (omega arith) refl)
        | no a ↦
            stamped_tells n (omega arith) h link k
            (sym (get_or-set_other (stamped own g n marks) (get_or own n 0) link (Some g) None a) ∙ e)
      ]

  -- no mark lies afterwards
  pub honest_stamped : Honest flows (stamped own g (length own) marks)
  honest_stamped = record {
    long = stamped_length own g marks (path_number good g flow) honest.long (length own);
    tells = stamped_tells (length own) (omega arith);
  }

  -- and those of the path are exact
  pub marked_stamped : Marked flows (stamped own g (length own) marks) g
  unfolding has_mark
  marked_stamped = record {
    exact = λ link.
        same_test _ _
        (λ e. honest_stamped.tells g link flow (flow_marks g _ e))
        (λ e.
        let w = has_place own link e in
        marks_same g _ (ap (λ (k : ℕ). get_or (stamped own g (length own) marks) k None) (sym w.2)
        ∙ stamped_made own g marks (path_number good g flow) honest.long (length own) w.0 (omega arith) w.1));
  }
