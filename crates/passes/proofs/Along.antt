-- Induction along a pass, and what it keeps: the length of the fail counts, and what holds of each packet of its list.
use mathlib.Core.Path.{◌≡◌, refl, ◌∙◌}
use mathlib.Core.Bool.{true, false}
use mathlib.Core.List.{List, [], ◌∷◌, ◌++◌}
use Prim.Native.Nat.{ℕ, ◌+◌, ◌≤◌, ◌<◌}
use native.Mathlib.Nat.{lt_of_not-le}
use native.Mathlib.Decide.{dec_le}
use lib.ListN.{length, set, length-set}
use Rattle.basics.proofs.Each.{Each, each_append}
use Rattle.packet.specs.Packet.{Packet}
use Rattle.placing.specs.Placing.{placing_of}
use Rattle.gaps.specs.declared.gap.Placed.{Placed}
use Rattle.gaps.specs.declared.gap.Placed.TheVariants.{At, Nowhere}
use Rattle.passes.specs.Pass.{Pass, pass_from}
use Rattle.settling.specs.Settling.{raised}
use Rattle.passes.proofs.PassSteps.{pass_placed, pass_broken, pass_skipped}

module _ (ps : List Packet) (f g : ℕ) where
  -- what holds at the end of a list and where a pass is broken off, and of a pass where it does of the rest of it, holds of every pass
  module _ (P : List ℕ → List ℕ → List ℕ → List ℕ → ℕ → Pass → Type 0)
      (end : (kept fails table : List ℕ) (tries : ℕ)
      → P [] kept fails table tries record { whole = true; list = kept; fails = fails; table = table; tries = tries })
      (places : (p : ℕ) (rest kept fails table : List ℕ) (tries t m : ℕ) (r : Pass) → placing_of ps f table p ≡ At t m
      → P rest (kept ++ (p ∷ [])) fails (set table p t) (tries + m) r → P (p ∷ rest) kept fails table tries r)
      (breaks : (p : ℕ) (rest kept fails table : List ℕ) (tries m : ℕ) → placing_of ps f table p ≡ Nowhere m → raised fails p < g
      → P (p ∷ rest) kept fails table tries
      record { whole = false; list = p ∷ (kept ++ rest); fails = set fails p (raised fails p); table = table; tries = tries + m })
      (skips : (p : ℕ) (rest kept fails table : List ℕ) (tries m : ℕ) (r : Pass) → placing_of ps f table p ≡ Nowhere m → g ≤ raised fails p
      → P rest kept (set fails p (raised fails p)) table (tries + m) r → P (p ∷ rest) kept fails table tries r) where
    pub along : (rest kept fails table : List ℕ) (tries : ℕ) → P rest kept fails table tries (pass_from ps f g rest kept fails table tries)
    unfolding pass_from
    along [] kept fails table tries = end kept fails table tries
    along (p ∷ rest) kept fails table tries =
        go (placing_of ps f table p) refl (λ t m. along rest (kept ++ (p ∷ [])) fails (set table p t) (tries + m))
        (λ m. along rest kept (set fails p (raised fails p)) table (tries + m))
      where
        go : (o : Placed) → placing_of ps f table p ≡ o
            → ((t m : ℕ) → P rest (kept ++ (p ∷ [])) fails (set table p t) (tries + m) (pass_from ps f g rest (kept ++ (p ∷ [])) fails (set table p t) (tries + m)))
            → ((m : ℕ) → P rest kept (set fails p (raised fails p)) table (tries + m) (pass_from ps f g rest kept (set fails p (raised fails p)) table (tries + m)))
            → P (p ∷ rest) kept fails table tries (pass_from ps f g (p ∷ rest) kept fails table tries)
        go (At t m) e ih jh =
            rw (pass_placed ps f g p rest kept fails table tries m t e) (places p rest kept fails table tries t m _ e (ih t m))
        go (Nowhere m) e ih jh =
            elim (dec_le g (raised fails p)) [
              | yes h ↦ rw (pass_skipped ps f g p rest kept fails table tries m e h) (skips p rest kept fails table tries m _ e h (jh m))
              | no h ↦
                  rw (pass_broken ps f g p rest kept fails table tries m e (lt_of_not-le h))
                  (breaks p rest kept fails table tries m e (lt_of_not-le h))
            ]

  -- there are as many fail counts as before
  pub fails_length : (rest kept fails table : List ℕ) (tries : ℕ) → length (pass_from ps f g rest kept fails table tries).fails ≡ length fails
  fails_length =
      along (λ rest kept fails table tries r. length r.fails ≡ length fails)
      (λ kept fails table tries. refl)
      (λ p rest kept fails table tries t m r e ih. ih)
      (λ p rest kept fails table tries m e h. length-set fails p (raised fails p))
      (λ p rest kept fails table tries m r e h ih. ih ∙ length-set fails p (raised fails p))

  -- what holds of each packet of the list holds of each that is left in it
  pub list_each : (Q : ℕ → Type 0) (rest kept fails table : List ℕ) (tries : ℕ) → Each Q rest → Each Q kept
      → Each Q (pass_from ps f g rest kept fails table tries).list
  list_each Q =
      along (λ rest kept fails table tries r. Each Q rest → Each Q kept → Each Q r.list)
      (λ kept fails table tries a b. b)
      (λ p rest kept fails table tries t m r e ih a b. ih a.1 (each_append Q kept (p ∷ []) b (a.0, tt)))
      (λ p rest kept fails table tries m e h a b. (a.0, each_append Q kept rest b a.1))
      (λ p rest kept fails table tries m r e h ih a b. ih a.1 b)
