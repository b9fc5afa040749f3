-- Steps: what integers come to as natural numbers, how far on and how far back.
use mathlib.Core.Path.{◌≡◌, refl, sym, ap, subst}
use mathlib.Core.Bool.{Bool, true, false, cond}
use Prim.Native.Nat.{ℕ, suc, ◌+◌, ◌-◌, ◌≤◌, ◌<◌}
use native.Mathlib.Omega.{arith}
use lib.Dec.{T, ltb, le→leb}
use lib.IntN.{ℤ, pos, negsuc, nat_abs, ◌+ℤ◌}
use lib.Signed.{non_neg, le_z, lt_z, le_z_yes, yes_non_neg, ◌≤ℤ◌}
use borrow.Author.Tests.{ltb-false, lt-ltb, le-leb, le-ltb}
use Rattle.basics.specs.Choose.{both}
use Rattle.basics.proofs.Choose.{both_pass}
use Rattle.mesh.specs.Node.{Inside}
use Rattle.mesh.specs.Link.{step_of, to_column, to_row, end_of, stays}
use Rattle.mesh.specs.declared.nodes.Place.{Place}

-- ---- one step

-- how far on a step goes
abbrev pub ahead : ℤ → ℕ
ahead (pos n) = n
ahead (negsuc n) = 0

-- how far back a step goes
abbrev pub behind : ℤ → ℕ
behind (pos n) = 0
behind (negsuc n) = suc n

-- a step that goes back no further than 0 leads so far on and so far back
pub step_to : (x : ℕ) (z : ℤ) → behind z ≤ x → pos x +ℤ z ≡ pos (x + ahead z - behind z)
step_to x (pos n) h = ap pos (let e : x + n ≡ x + n - 0 = omega arith in e)
step_to x (negsuc n) h = rw (le-ltb x (suc n) h) (ap pos (let e : x - suc n ≡ x + 0 - suc n = omega arith in e))

-- a step that does not lead below 0 goes back no further than 0
pub back_within : (x : ℕ) (z : ℤ) → pos 0 ≤ℤ (pos x +ℤ z) → behind z ≤ x
back_within x (pos n) h = omega arith
back_within x (negsuc n) h = go (ltb x (suc n)) refl (yes_non_neg h)
  where
    go : (t : Bool) → ltb x (suc n) ≡ t → T (non_neg (cond t (negsuc (suc n - suc x)) (pos (x - suc n)))) → suc n ≤ x
    go true e k = absurd k
    go false e k = ltb-false x (suc n) e

-- a step that goes back no further than 0 does not lead below 0
pub not_below : (x : ℕ) (z : ℤ) → behind z ≤ x → pos 0 ≤ℤ (pos x +ℤ z)
not_below x z h = subst (λ (s : ℤ). pos 0 ≤ℤ s) (sym (step_to x z h)) (le_z_yes (le→leb 0 (x + ahead z - behind z) (omega arith)))

-- ---- the steps of a kind

-- how many columns on a kind goes
abbrev pub east : ℕ → ℕ
east kind = ahead (step_of kind).column

-- how many columns back a kind goes
abbrev pub west : ℕ → ℕ
west kind = behind (step_of kind).column

-- how many rows on a kind goes
abbrev pub south : ℕ → ℕ
south kind = ahead (step_of kind).row

-- how many rows back a kind goes
abbrev pub north : ℕ → ℕ
north kind = behind (step_of kind).row

-- a link that goes back no further than column 0 ends so many columns on and back
pub end_column : (kind : ℕ) (at : Place) → west kind ≤ at.column → (end_of kind at).column ≡ at.column + east kind - west kind
unfolding end_of
end_column kind at h = ap nat_abs (step_to at.column (step_of kind).column h)

-- a link that goes back no further than row 0 ends so many rows on and back
pub end_row : (kind : ℕ) (at : Place) → north kind ≤ at.row → (end_of kind at).row ≡ at.row + south kind - north kind
unfolding end_of
end_row kind at h = ap nat_abs (step_to at.row (step_of kind).row h)

-- an integer that is not negative, and as a natural number is below n, passes the tests of both
in_range : (z : ℤ) (n : ℕ) → pos 0 ≤ℤ z → nat_abs z < n → both (le_z (pos 0) z) (lt_z z (pos n)) ≡ true
in_range (pos m) n p h = both_pass _ _ (le-leb 0 m (omega arith)) (lt-ltb m n h)
in_range (negsuc m) n p h = absurd p.le

-- a step that does not lead below 0, and to a place inside the mesh, stays in the mesh
pub inside_stays : (columns rows kind : ℕ) (at : Place) → pos 0 ≤ℤ to_column kind at → pos 0 ≤ℤ to_row kind at → Inside columns rows (end_of kind at)
    → stays columns rows kind at ≡ true
unfolding end_of stays
inside_stays columns rows kind at c r i =
    both_pass _ _ (in_range (to_column kind at) columns c i.column_in) (in_range (to_row kind at) rows r i.row_in)
