-- `share` asks the library's `any` and `contains` of the links of the two paths (proofs/Common.antt).
use mathlib.Core.Path.{◌∙◌, ap₂}
use mathlib.Core.List.{List}
use Prim.Native.Nat.{ℕ}
use lib.Dec.{eqb}
use Rattle.std.specs.List.{list_any}
use Rattle.routes.specs.Route.{links_of}
use Rattle.routes.proofs.Common.{any_shares}
use Rattle.routes.proofs.sharing.share.Goals as goal

pub returns : goal.returns
returns c =
    c.meet.ensures
    ∙ ap₂ (λ (a b : List ℕ). list_any (λ x. list_any (λ y. eqb y x) b) a) c.listed.ensures c.listed-2.ensures
    ∙ any_shares (links_of c.args.a) (links_of c.args.b)
