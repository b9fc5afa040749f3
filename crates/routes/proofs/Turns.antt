-- One turn of the loop of `walk`: a step of what is left to walk, and that the steps left stay inside.
use mathlib.Core.Path.{◌≡◌, sym, ◌∙◌, ap, ap₂, subst}
use Prim.Native.Nat.{ℕ, suc, ◌+◌, ◌-◌, ◌≤◌, ◌<◌}
use native.Mathlib.Omega.{arith}
use Rattle.mesh.specs.Node.{node_at}
use Rattle.mesh.specs.Link.{link_of, end_of}
use Rattle.routes.specs.Growing.{pushed, walked, Stays}
use Rattle.mesh.specs.declared.nodes.Place.{Place}
use Rattle.routes.specs.declared.paths.Path.{Path}

-- where a walk stands after i of n steps: what is left of it makes the whole, and its steps stay inside
pub record Walking (columns kind n : ℕ) (path₀ : Path) (from : Place) (path : Path) (at : Place) (i : ℕ) : Type 0 where
  pub same : walked path columns kind (n - i) at ≡ walked path₀ columns kind n from
  pub within : i ≤ n
  pub long : path.len ≡ path₀.len + i
  pub inside : Stays columns 16 kind (n - i) at

-- where a step is left, the next one and those after it are
left : (n i : ℕ) → i < n → n - i ≡ suc (n - (i + 1))
left n i h = omega arith

-- what is left of a walk is its next step and then what is left of it
pub next_step : (path : Path) (columns kind n i : ℕ) (at : Place) → i < n
    → walked path columns kind (n - i) at ≡ walked (pushed path (link_of (node_at columns at) kind)) columns kind (n - (i + 1)) (end_of kind at)
unfolding walked
next_step path columns kind n i at h = ap (λ (k : ℕ). walked path columns kind k at) (left n i h)

-- the next step starts inside, and the steps after it stay there
pub next_stays : (columns kind n i : ℕ) (at : Place) → i < n → Stays columns 16 kind (n - i) at → Stays columns 16 kind (suc (n - (i + 1))) at
next_stays columns kind n i at h s = subst (λ (k : ℕ). Stays columns 16 kind k at) (left n i h) s

-- a turn with the link of the place pushed and the place moved to that link's end
pub next_walking : {columns kind n i : ℕ} {path₀ path path' : Path} {from at at' : Place} {node link : ℕ}
    → Walking columns kind n path₀ from path at i → i < n
    → node ≡ node_at columns at → link ≡ link_of node kind → path' ≡ pushed path link → at' ≡ end_of kind at
    → Walking columns kind n path₀ from path' at' (i + 1)
unfolding pushed
next_walking {columns} {kind} {n} {i} {path₀} {path} {path'} {from} {at} {at'} {node} {link} w h en el ep ea = record {
  same =
      ap₂ (λ (p : Path) (a : Place). walked p columns kind (n - (i + 1)) a)
      (ep ∙ ap (pushed path) (el ∙ ap (λ (k : ℕ). link_of k kind) en)) ea
      ∙ sym (next_step path columns kind n i at h)
      ∙ w.same;
  within = omega arith;
  long = omega (arith, ap (λ (p : Path). p.len) ep, w.long);
  inside = subst (λ (a : Place). Stays columns 16 kind (n - (i + 1)) a) (sym ea) (next_stays columns kind n i at h w.inside).3;
}
