-- Laws of links in common: a path has a link exactly where one of its places holds it, and two paths share a link exactly
-- where some link is on both. Then the same read off two paths by value, as the code compares them.
use mathlib.Core.Path.{◌≡◌, refl, sym, ◌∙◌, ap, subst}
use mathlib.Core.Bool.{Bool, true}
use mathlib.Core.List.{List}
use Prim.Native.Nat.{ℕ, ◌<◌}
use lib.Dec.{eqb}
use lib.ListN.{length, get_or}
use borrow.Author.Tests.{eqb-true, eq-eqb}
use Rattle.basics.specs.First.{first, some}
use Rattle.basics.proofs.Choose.{same_test}
use Rattle.basics.proofs.First.{some_at, some_first, some_same, first_passes}
use Rattle.std.specs.List.{list_any}
use Rattle.std.proofs.lemmas.List.{get_or_default}
use Rattle.std.proofs.lemmas.List.Folds.{list_any_at, Any-from_list_any}
use Rattle.routes.specs.Share.{has, shares}

-- a link at some place of a path is on it
pub has_at : (path : List ℕ) (link i : ℕ) → i < length path → get_or path i 0 ≡ link → has path link ≡ true
unfolding has
has_at path link i h e = some_at _ (length path) i h (eq-eqb (get_or path i 0) link e)

-- a link on a path is at some place of it
pub has_place : (path : List ℕ) (link : ℕ) → has path link ≡ true → (i : ℕ) × (i < length path) × (get_or path i 0 ≡ link)
unfolding has
has_place path link h =
    let l = some_first _ (length path) h in
    (first (λ i. eqb (get_or path i 0) link) (length path), l, eqb-true _ link (first_passes _ (length path) l))

-- a link on both paths is shared
pub shares_at : (a b : List ℕ) (link : ℕ) → has a link ≡ true → has b link ≡ true → shares a b ≡ true
unfolding shares
shares_at a b link p q =
    let w = has_place a link p in
    some_at _ (length a) w.0 w.1 (subst (λ (l : ℕ). has b l ≡ true) (sym w.2) q)

-- of two paths that share a link, some link is on both
pub shares_link : (a b : List ℕ) → shares a b ≡ true → (link : ℕ) × (has a link ≡ true) × (has b link ≡ true)
unfolding shares
shares_link a b h =
    let l = some_first _ (length a) h in
    let i = first (λ i. has b (get_or a i 0)) (length a) in
    (get_or a i 0, has_at a (get_or a i 0) i l refl, first_passes (λ j. has b (get_or a j 0)) (length a) l)

-- sharing a link is the same from either side
pub shares_swap : (a b : List ℕ) → shares a b ≡ shares b a
shares_swap a b = same_test (shares a b) (shares b a) (turn a b) (turn b a)
  where
    turn : (a b : List ℕ) → shares a b ≡ true → shares b a ≡ true
    turn a b e = let l = shares_link a b e in shares_at b a l.0 l.2 l.1

-- ---- as the library's `any` asks

-- an element that it finds stands somewhere
any_at : (p : ℕ → Bool) (xs : List ℕ) → list_any p xs ≡ true → (i : ℕ) × (i < length xs) × (p (get_or xs i 0) ≡ true)
any_at p xs e =
    let found = Any-from_list_any p xs e in
    (found.0, found.2, ap p (get_or_default xs found.0 0 found.1 found.2 ∙ found.3) ∙ found.4)

-- it asks the same of a list as the test of some place of it
any_some : (p : ℕ → Bool) (xs : List ℕ) → list_any p xs ≡ some (λ i. p (get_or xs i 0)) (length xs)
any_some p xs = same_test (list_any p xs) (some (λ i. p (get_or xs i 0)) (length xs)) forth back
  where
    forth : list_any p xs ≡ true → some (λ i. p (get_or xs i 0)) (length xs) ≡ true
    forth e = let at = any_at p xs e in some_at _ (length xs) at.0 at.1 at.2

    back : some (λ i. p (get_or xs i 0)) (length xs) ≡ true → list_any p xs ≡ true
    back e =
        let l = some_first _ (length xs) e in
        list_any_at p xs (first (λ i. p (get_or xs i 0)) (length xs)) 0 l (first_passes (λ i. p (get_or xs i 0)) (length xs) l)

-- some link of one path is some link of the other exactly where the two share a link
pub any_shares : (a b : List ℕ) → list_any (λ x. list_any (λ y. eqb y x) b) a ≡ shares a b
unfolding has shares
any_shares a b =
    any_some (λ x. list_any (λ y. eqb y x) b) a
    ∙ some_same _ _ (length a) (λ i h. any_some (λ y. eqb y (get_or a i 0)) b)
