-- One pass over the list.
use Rattle.std.specs.Prelude.{Bool, true, false, List, [], ◌∷◌, ◌++◌, ℕ, ◌+◌, ltb, length, set, replicate}
use Rattle.packet.specs.Packet.{Packet}
use Rattle.packet.specs.Table.{none}
use Rattle.placing.specs.Placing.{placing_of}
use Rattle.settling.specs.Settling.{raised}
use Rattle.gaps.specs.declared.gap.Placed.TheVariants.{At, Nowhere}

-- what a pass leaves: whether it ran to the end of its list, the list, the fail counts, the table, and the times tried
pub record Pass : Type 0 where
  pub whole : Bool
  pub list : List ℕ
  pub fails : List ℕ
  pub table : List ℕ
  pub tries : ℕ

-- a pass from where it stands: the packets still to be taken in list order, those taken so far that stay in the list, the fail
-- counts, the table, and the times tried
unfoldable pub pass_from : List Packet → ℕ → ℕ → List ℕ → List ℕ → List ℕ → List ℕ → ℕ → Pass
pass_from ps f g [] kept fails table tries = record { whole = true; list = kept; fails = fails; table = table; tries = tries }
pass_from ps f g (p ∷ rest) kept fails table tries = elim (placing_of ps f table p) [
  | At t m ↦ pass_from ps f g rest (kept ++ (p ∷ [])) fails (set table p t) (tries + m)
  | Nowhere m ↦ elim (ltb (raised fails p) g) [
    | true ↦ record { whole = false; list = p ∷ (kept ++ rest); fails = set fails p (raised fails p); table = table; tries = tries + m }
    | false ↦ pass_from ps f g rest kept (set fails p (raised fails p)) table (tries + m)
  ]
]

-- a pass begins with nothing placed and takes the packets in list order
unfoldable pub pass_over : List Packet → ℕ → ℕ → List ℕ → List ℕ → Pass
pass_over ps f g list fails = pass_from ps f g list [] fails (replicate (length ps) none) 0
