-- Laws of tests: two at once, and one or the other, each made from and taken apart into the two; and when two tests agree, or one
-- cannot pass; then what a test chose, a value or none, and what `ok_or` puts in the place of none.
use mathlib.Core.Path.{◌≡◌, refl, sym, ◌∙◌, ap}
use mathlib.Core.Bool.{Bool, true, false, false≢true, true≢false}
use Rattle.std.specs.Prelude.{Option, Result, Some, None, Err}
use Rattle.std.specs.Option.{ok_or}
use Rattle.basics.specs.Choose.{both, either, choose}

-- ---- `both`

-- where each test passes, both do
pub both_pass : (a b : Bool) → a ≡ true → b ≡ true → both a b ≡ true
both_pass true b p q = q
both_pass false b p q = p

-- where both pass, the first does
pub both_first : (a b : Bool) → both a b ≡ true → a ≡ true
both_first true b e = refl
both_first false b e = e

-- where both pass, the second does
pub both_second : (a b : Bool) → both a b ≡ true → b ≡ true
both_second true b e = e
both_second false b e = absurd (false≢true e)

-- where the second does not pass, both do not
pub both_not : (a b : Bool) → b ≡ false → both a b ≡ false
both_not true b e = e
both_not false b e = refl

-- the order of the two tests does not matter
pub both_swap : (a b : Bool) → both a b ≡ both b a
both_swap true true = refl
both_swap true false = refl
both_swap false true = refl
both_swap false false = refl

-- ---- `either`

-- where not one of two tests passes, neither does
pub neither : (a b : Bool) → either a b ≡ false → (a ≡ false) × (b ≡ false)
neither true b e = absurd (true≢false e)
neither false b e = (refl, e)

-- where the first test does not pass, the second decides
pub rest_of : (a b : Bool) → a ≡ false → either a b ≡ b
rest_of true b e = absurd (true≢false e)
rest_of false b e = refl

-- where neither of two tests passes, not one does
pub none_of : (a b : Bool) → a ≡ false → b ≡ false → either a b ≡ false
none_of a b p q = rest_of a b p ∙ q

-- ---- one test

-- a test that cannot pass does not
pub not_passing : (t : Bool) → (t ≡ true → ⊥) → t ≡ false
not_passing true h = absurd (h refl)
not_passing false h = refl

-- two tests of which each passes where the other does are the same
pub same_test : (a b : Bool) → (a ≡ true → b ≡ true) → (b ≡ true → a ≡ true) → a ≡ b
same_test true b f g = sym (f refl)
same_test false true f g = g refl
same_test false false f g = refl

-- ---- what a test chose

module _ {X : Type 0} where
  -- none: the test did not pass
  pub chosen_none : (t : Bool) (x : X) → choose t (Some x) None ≡ None → t ≡ false
  chosen_none true x e = cc
  chosen_none false x e = refl

  -- a value: it passed, and the value is the one chosen
  pub chosen_some : (t : Bool) (x y : X) → choose t (Some x) None ≡ Some y → (t ≡ true) × (x ≡ y)
  chosen_some true x y e = (refl, cc)
  chosen_some false x y e = cc

-- the error that `ok_or` gives is the one that was named
pub named_error : {X E : Type 0} (o : Option X) (named e : E) (r : Result X E) → o ≡ None → r ≡ ok_or o named → r ≡ Err e → named ≡ e
named_error {X} {E} o named e r n f g = let h : ◌≡◌ {A = Result X E} (Err named) (Err e) = sym (f ∙ ap (λ (l : Option X). ok_or l named) n) ∙ g in cc
