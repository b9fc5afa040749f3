-- Every public function's answer, and the numbers lent to it, follow from its arguments: any two that its contract allows are equal, wherever
-- the same bytes are kept.
use mathlib.Core.Path.{◌≡◌, refl, sym, ◌∙◌, ap}
use mathlib.Core.List.{List}
use Prim.Native.Nat.{ℕ}
use mir.Val.{Fits}
use mir.Syntax.{w64}
use contract.Lifetimes.{Lfts}
use denote.Triple.Clauses.{AtExit}
use borrow.Fn.Kinds.{Dens, res_t, ended_of}
use lib.ListN.{length, replicate}
use Rattle.std.specs.Prelude.{Option, Some, None, IfNone}
use Rattle.std.specs.Option.{option_map}
use Rattle.lines.specs.Steps.{line_at}
use Rattle.lines.specs.declared.taking.Line.{Line}
use Rattle.lines.proofs.TextLines.{line_counted}
use Rattle.lines.proofs.flows.read_flows.Reads as read_flows
use Rattle.lines.proofs.flows.read_flows.Kinds as read_flows_kinds
use Rattle.lines.proofs.taking.read_line.Reads as read_line
use Rattle.lines.proofs.taking.read_line.Kinds as read_line_kinds
use Rattle.lines.proofs.taking.read_line_into.Reads as read_line_into
use Rattle.lines.proofs.taking.read_line_into.Kinds as read_line_into_kinds

-- numbers and a place that one answer fixes, and zeros where there is none
line_once : (x y : Option ℕ) (left₁ left₂ : List ℕ) (n₁ n₂ : ℕ) → n₁ ≡ n₂
    → option_map {U = Line n₂} (λ next. record { numbers = left₁; next = next }) x
    ≡ option_map {U = Line n₂} (λ next. record { numbers = left₂; next = next }) y
    → IfNone x (left₁ ≡ replicate n₁ 0) → IfNone y (left₂ ≡ replicate n₂ 0) → (x ≡ y) × (left₁ ≡ left₂)
line_once None None left₁ left₂ n₁ n₂ n e p q = (refl, p ∙ ap (λ (k : ℕ). replicate k 0) n ∙ sym q)
line_once None (Some v) left₁ left₂ n₁ n₂ n e p q = cc
line_once (Some u) None left₁ left₂ n₁ n₂ n e p q = cc
line_once (Some u) (Some v) left₁ left₂ n₁ n₂ n e p q =
    let same : ◌≡◌ {A = Line n₂} (record { numbers = left₁; next = u }) (record { numbers = left₂; next = v }) = cc in
    (ap (λ (line : Line n₂). Some line.next) same, ap (λ (line : Line n₂). line.numbers) same)

-- the place behind the line at a place, as a record of as many numbers as are lent, and what they become, of any two texts and words that are
-- the same
pub read_line_into_determined : (κs λs : Lfts 3) (a : Dens κs read_line_into_kinds.ps) (b : Dens λs read_line_into_kinds.ps)
    (x : (res_t read_line_into_kinds.r κs).Denot) (y : (res_t read_line_into_kinds.r λs).Denot)
    (s : AtExit (ended_of 3 read_line_into_kinds.ps read_line_into_kinds.r) κs)
    (t : AtExit (ended_of 3 read_line_into_kinds.ps read_line_into_kinds.r) λs)
    → a.0.now ≡ b.0.now → a.1.0 ≡ b.1.0 → a.1.1.0.now ≡ b.1.1.0.now → length a.1.1.1.0.now ≡ length b.1.1.1.0.now
    → read_line_into.Post κs a x s → read_line_into.Post λs b y t → (x ≡ y) × (s.1.1.1.0.now ≡ t.1.1.1.0.now)
read_line_into_determined κs λs a b x y s t text at word numbers p q =
    let n : ℕ = length b.1.1.1.0.now in
    let same : line_at a.1.1.0.now n a.0.now a.1.0 ≡ line_at b.1.1.0.now n b.0.now b.1.0 = cc in
    line_once x y _ _ _ n numbers (sym (line_counted _ _ _ _ n _ x numbers p.0) ∙ same ∙ q.0) p.1 q.1

-- the line at a place as a record of so many numbers, of any two texts and words that are the same
module _ (N : ℕ) (fits : Fits w64 N) where
  pub read_line_determined : (κs λs : Lfts 3) (a : Dens κs (read_line_kinds.ps N fits)) (b : Dens λs (read_line_kinds.ps N fits))
      (x : (res_t (read_line_kinds.r N fits) κs).Denot) (y : (res_t (read_line_kinds.r N fits) λs).Denot)
      (s : AtExit (ended_of 3 (read_line_kinds.ps N fits) (read_line_kinds.r N fits)) κs)
      (t : AtExit (ended_of 3 (read_line_kinds.ps N fits) (read_line_kinds.r N fits)) λs)
      → a.0.now ≡ b.0.now → a.1.0 ≡ b.1.0 → a.1.1.0.now ≡ b.1.1.0.now
      → read_line.Post N fits κs a x s → read_line.Post N fits λs b y t → x ≡ y
  read_line_determined κs λs a b x y s t text at word p q = p ∙ (cc) ∙ sym q

-- the flow lines from a place on, of any two texts that are the same
pub read_flows_determined : (κs λs : Lfts 1) (a : Dens κs read_flows_kinds.ps) (b : Dens λs read_flows_kinds.ps)
    (x : (res_t read_flows_kinds.r κs).Denot) (y : (res_t read_flows_kinds.r λs).Denot)
    (s : AtExit (ended_of 1 read_flows_kinds.ps read_flows_kinds.r) κs)
    (t : AtExit (ended_of 1 read_flows_kinds.ps read_flows_kinds.r) λs)
    → a.0.now ≡ b.0.now → a.1.0 ≡ b.1.0
    → read_flows.Post κs a x s → read_flows.Post λs b y t → x ≡ y
read_flows_determined κs λs a b x y s t text from p q = p ∙ (cc) ∙ sym q
