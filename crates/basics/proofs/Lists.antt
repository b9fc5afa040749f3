-- Laws of lists given by a rule, and of lists filled up to a length, as an array is that is filled from the front.
use mathlib.Core.Path.{◌≡◌, refl, sym, ◌∙◌, ap, ap₂}
use mathlib.Core.List.{List, [], ◌∷◌, ◌++◌, append_assoc}
use Prim.Native.Nat.{ℕ, zero, suc, ◌+◌, ◌-◌, ◌≤◌, ◌<◌}
use native.Mathlib.Nat.{add-zero, zero-add, add-suc, suc-add, not-suc-le-zero, le_of_suc-le-suc}
use native.Mathlib.Numerals.{add-one}
use native.Mathlib.Omega.{arith}
use lib.ListN.{length, get_or, set, take, drop, replicate, length-append, length-replicate, get_or-append}
use lib.Seq.{set_at, take_at}
use Rattle.std.proofs.lemmas.List.{drop-replicate, ext_get_or}
use Rattle.basics.specs.Lists.{tabulate, padded}

-- ---- `tabulate`

module _ {ℓ} {X : Type ℓ} (f : ℕ → X) where
  -- it has as many entries as asked
  pub tabulate_length : (i n : ℕ) → length (tabulate f i n) ≡ n
  unfolding tabulate
  tabulate_length i zero = refl
  tabulate_length i (suc n) = ap suc (tabulate_length (suc i) n)

  -- entry k is f at k from the start
  pub tabulate_at : (i n k : ℕ) (d : X) → k < n → get_or (tabulate f i n) k d ≡ f (i + k)
  unfolding tabulate
  tabulate_at i zero k d h = absurd (not-suc-le-zero h)
  tabulate_at i (suc n) zero d h = ap f (sym (add-zero i))
  tabulate_at i (suc n) (suc k) d h = tabulate_at (suc i) n k d (le_of_suc-le-suc h) ∙ ap f (suc-add i k ∙ sym (add-suc i k))

  -- one entry more stands at the end
  pub tabulate_snoc : (i n : ℕ) → tabulate f i (suc n) ≡ tabulate f i n ++ (f (i + n) ∷ [])
  unfolding tabulate
  tabulate_snoc i zero = ap (λ (k : ℕ). f k ∷ []) (sym (add-zero i))
  tabulate_snoc i (suc n) =
      ap (λ (l : List X). f i ∷ l) (tabulate_snoc (suc i) n ∙ ap (λ (k : ℕ). tabulate f (suc i) n ++ (f k ∷ [])) (suc-add i n ∙ sym (add-suc i n)))

-- ---- `padded`

-- an entry of a list reads the same whatever stands for what lies past its end
pub read_any {ℓ} : {X : Type ℓ} (xs : List X) (k : ℕ) (d e : X) → k < length xs → get_or xs k d ≡ get_or xs k e
read_any [] k d e h = absurd (omega arith)
read_any (x ∷ xs) zero d e h = refl
read_any (x ∷ xs) (suc k) d e h = read_any xs k d e (omega arith)

-- a list of one value reads as that value everywhere
pub fill_at {ℓ} : {X : Type ℓ} (fill : X) (m k : ℕ) → get_or (replicate m fill) k fill ≡ fill
fill_at fill zero k = refl
fill_at fill (suc m) zero = refl
fill_at fill (suc m) (suc k) = fill_at fill m k

module _ {ℓ} {X : Type ℓ} (n : ℕ) (fill : X) where
  -- it has n entries
  pub padded_length : (xs : List X) → length xs ≤ n → length (padded n fill xs) ≡ n
  unfolding padded
  padded_length xs h = omega (arith, length-append xs (replicate (n - length xs) fill), length-replicate (n - length xs) fill)

  -- its front is the list
  pub padded_take : (xs : List X) → take (length xs) (padded n fill xs) ≡ xs
  unfolding padded
  padded_take xs = take_at xs (replicate (n - length xs) fill) (length xs) refl

  -- an entry of the list
  pub padded_at : (xs : List X) (k : ℕ) (d : X) → k < length xs → get_or (padded n fill xs) k d ≡ get_or xs k d
  unfolding padded
  padded_at xs k d h = get_or-append xs (replicate (n - length xs) fill) d k h

  -- an entry past the list
  pub padded_past : (xs : List X) (k : ℕ) → length xs ≤ k → get_or (padded n fill xs) k fill ≡ fill
  unfolding padded
  padded_past xs k h = go xs k h
    where
      go : (ys : List X) (j : ℕ) → length ys ≤ j → get_or (ys ++ replicate (n - length xs) fill) j fill ≡ fill
      go [] j l = fill_at fill (n - length xs) j
      go (y ∷ ys) zero l = absurd (not-suc-le-zero l)
      go (y ∷ ys) (suc j) l = go ys j (le_of_suc-le-suc l)

  -- storing behind the list puts one more entry on it
  pub padded_push : (xs : List X) (x : X) → length xs < n → set (padded n fill xs) (length xs) x ≡ padded n fill (xs ++ (x ∷ []))
  unfolding padded
  padded_push xs x h =
      let more : length (xs ++ (x ∷ [])) ≡ length xs + 1 = length-append xs (x ∷ []) in
      let room : n - length xs ≡ suc (n - (length xs + 1)) = omega arith in
      ap (λ (k : ℕ). set (xs ++ replicate k fill) (length xs) x) room
      ∙ set_at xs fill (replicate (n - (length xs + 1)) fill) x (length xs) refl
      ∙ sym (append_assoc xs (x ∷ []) (replicate (n - (length xs + 1)) fill))
      ∙ ap (λ (k : ℕ). (xs ++ (x ∷ [])) ++ replicate (n - k) fill) (sym more)

-- storing the next entry of a rule behind its first ones
pub padded_next {ℓ} : {X : Type ℓ} (n : ℕ) (fill : X) (f : ℕ → X) (k : ℕ) → k < n → {l : List X} {x : X}
    → l ≡ padded n fill (tabulate f 0 k) → x ≡ f k → set l k x ≡ padded n fill (tabulate f 0 (k + 1))
padded_next {X = X} n fill f k h e d =
    let len = tabulate_length f 0 k in
    ap₂ (λ (l : List X) (x : X). set l k x) e d
    ∙ ap (λ (i : ℕ). set (padded n fill (tabulate f 0 k)) i (f k)) (sym len)
    ∙ padded_push n fill (tabulate f 0 k) (f k) (omega arith)
    ∙ ap (λ (i : ℕ). padded n fill (tabulate f 0 k ++ (f i ∷ []))) (sym (zero-add k))
    ∙ ap (padded n fill) (sym (tabulate_snoc f 0 k))
    ∙ ap (λ (i : ℕ). padded n fill (tabulate f 0 i)) (sym (add-one k))

-- a list that holds the first entries of a rule is the rule's list
tabulate_is {ℓ} : {X : Type ℓ} (f : ℕ → X) (n : ℕ) (d : X) (xs : List X) → length xs ≡ n → ((k : ℕ) → k < n → get_or xs k d ≡ f k) → xs ≡ tabulate f 0 n
tabulate_is f n d xs e at =
    ext_get_or d xs (tabulate f 0 n) (e ∙ sym (tabulate_length f 0 n))
    (λ i h. let l : i < n = omega (arith, e) in at i l ∙ sym (tabulate_at f 0 n i d l ∙ ap f (zero-add i)))

-- the first entries of a rule, written into the front of a list of one value
pub padded_front : {X : Type 0} (m : ℕ) (fill : X) (f : ℕ → X) (n : ℕ) (d : X) (xs : List X) → length xs ≡ n → ((k : ℕ) → k < n → get_or xs k d ≡ f k)
    → xs ++ drop n (replicate m fill) ≡ padded m fill (tabulate f 0 n)
unfolding padded
padded_front m fill f n d xs e at =
    rw (drop-replicate n m fill, tabulate_is f n d xs e at, tabulate_length f 0 n) refl
