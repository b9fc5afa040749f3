-- A flow's path: its length, its links, when a link is on it, and when it shares none.
use mathlib.Core.Path.{◌≡◌, ◌∙◌}
use mathlib.Core.Bool.{true, false}
use mathlib.Core.List.{List}
use Prim.Native.Nat.{ℕ, ◌<◌}
use native.Mathlib.Omega.{arith}
use lib.ListN.{length, get_or}
use lib.Seq.{length-take-le, get_or-take}
use Rattle.basics.proofs.First.{some_none}
use Rattle.mesh.specs.Link.{all_links}
use Rattle.routes.specs.Route.{links_of}
use Rattle.routes.specs.Share.{has, shares}
use Rattle.routes.proofs.Common.{has_at}
use Rattle.load.specs.Entries.{nth_flow}
use Rattle.load.specs.declared.entries.FlowEntry.{FlowEntry}
use Rattle.load.specs.Load.{path_in, Paths}

module _ {flows : List FlowEntry} (good : Paths flows) (g : ℕ) (flow : g < 64) where
  -- it has as many links as it says
  pub path_length : length (path_in flows g) ≡ (nth_flow flows g).path.len
  unfolding path_in links_of
  path_length = length-take-le (nth_flow flows g).path.len (nth_flow flows g).path.links (omega (arith, good.short g flow, good.whole g flow))

  -- and they stand in its array
  pub path_at : (a : ℕ) → a < (nth_flow flows g).path.len → get_or (path_in flows g) a 0 ≡ get_or (nth_flow flows g).path.links a 0
  unfolding path_in links_of
  path_at a h = get_or-take (nth_flow flows g).path.len (nth_flow flows g).path.links a 0 h

  -- each has the number of a link
  pub path_number : (a : ℕ) → a < length (path_in flows g) → get_or (path_in flows g) a 0 < all_links
  path_number a h = omega (arith, path_length, path_at a (omega (arith, path_length)), good.numbers g flow a (omega (arith, path_length, good.short g flow)))

  -- a link at one of its places is on the path
  pub path_has : (link a : ℕ) → a < (nth_flow flows g).path.len → get_or (nth_flow flows g).path.links a 0 ≡ link
      → has (path_in flows g) link ≡ true
  path_has link a h e = has_at (path_in flows g) link a (omega (arith, path_length)) (path_at a h ∙ e)

-- a path none of whose links is on another shares none
pub path_apart : (path other : List ℕ) → ((a : ℕ) → a < length path → has other (get_or path a 0) ≡ false) → shares path other ≡ false
unfolding shares
path_apart path other lacks = some_none _ _ lacks
