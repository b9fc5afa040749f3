-- Marks of the links of paths.
use Rattle.std.specs.Prelude.{◌≡◌, Bool, true, List, Option, None, Some, ℕ, zero, suc, ◌<◌, eqb, length, get_or, set}
use Rattle.std.specs.Option.{option_eq}
use Rattle.routes.specs.Share.{has}
use Rattle.load.specs.declared.entries.FlowEntry.{FlowEntry}
use Rattle.mesh.specs.Link.{all_links}
use Rattle.load.specs.Load.{path_in}

-- the marks of the first n links of a path made, for flow g
unfoldable pub stamped : List ℕ → ℕ → ℕ → List (Option ℕ) → List (Option ℕ)
stamped path g zero marks = marks
stamped path g (suc n) marks = set (stamped path g n marks) (get_or path n 0) (Some g)

-- a link has the mark of flow g
unfoldable pub has_mark : List (Option ℕ) → ℕ → ℕ → Bool
has_mark marks g link = option_eq eqb (get_or marks link None) (Some g)

-- no mark lies: a link with the mark of a flow is on its path
pub record Honest (flows : List FlowEntry) (marks : List (Option ℕ)) : Type 0 where
  pub long : length marks ≡ all_links
  pub tells : (g link : ℕ) → g < 64 → get_or marks link None ≡ Some g → has (path_in flows g) link ≡ true

-- a link has the mark of flow g exactly where it is on its path
pub record Marked (flows : List FlowEntry) (marks : List (Option ℕ)) (g : ℕ) : Type 0 where
  pub exact : (link : ℕ) → has_mark marks g link ≡ has (path_in flows g) link
