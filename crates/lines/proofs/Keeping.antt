-- Laws of numbers kept in an array that is filled from the front: a flow's numbers stored behind those kept.
use mathlib.Core.Path.{◌≡◌, refl, sym, ◌∙◌, ap}
use mathlib.Core.Bool.{Bool, true, false}
use mathlib.Core.List.{List, ◌++◌}
use Prim.Native.Nat.{ℕ, ◌+◌, ◌-◌, ◌*◌, ◌≤◌}
use native.Mathlib.Omega.{arith}
use borrow.Author.Tests.{ltb-true, ltb-false}
use lib.Dec.{ltb}
use lib.ListN.{length, take, drop, replicate, length-append}
use lib.Seq.{paste, take_at, take_all, take-length, take-append-le, drop-append-add}
use Rattle.std.proofs.lemmas.List.{drop-replicate}
use Rattle.basics.specs.Lists.{padded}
use Rattle.model.specs.Flows.{per_flow}
use Rattle.lines.specs.Form.{most_kept, kept_numbers, flows_kept}
use Rattle.lines.specs.Steps.{stored_at}

-- what is copied behind the list is put on it
paste_padded : (n k : ℕ) (xs ys : List ℕ) → length xs ≡ k → k + length ys ≤ n → paste (padded n 0 xs) k ys (length ys) ≡ padded n 0 (xs ++ ys)
unfolding padded
paste_padded n k xs ys e h =
    let zeros : List ℕ = replicate (n - length xs) 0 in
    let left : n - length xs - length ys ≡ n - length (xs ++ ys) = omega (arith, length-append xs ys) in
    ap (λ (l : List ℕ). l ++ take (length ys) ys ++ drop (k + length ys) (xs ++ zeros)) (take_at xs zeros k e)
    ∙ ap (λ (l : List ℕ). xs ++ l ++ drop (k + length ys) (xs ++ zeros)) (take-length ys)
    ∙ ap (λ (j : ℕ). xs ++ ys ++ drop (j + length ys) (xs ++ zeros)) (sym e)
    ∙ ap (λ (l : List ℕ). xs ++ ys ++ l)
    (drop-append-add xs zeros (length ys) ∙ drop-replicate (length ys) (n - length xs) 0 ∙ ap (λ (j : ℕ). replicate {A = ℕ} j 0) left)

-- one more flow's numbers are kept, or not where the most flows are kept
pub kept_more : (done flow : List ℕ) (count : ℕ) → length done ≡ per_flow * count → length flow ≡ per_flow
    → stored_at (flows_kept done) count flow ≡ flows_kept (done ++ flow)
unfolding stored_at flows_kept
kept_more done flow count e f = go (ltb count most_kept) refl
  where
    both_long : length (done ++ flow) ≡ per_flow * count + per_flow
    both_long = length-append done flow ∙ ap (λ (k : ℕ). k + length flow) e ∙ ap (λ (k : ℕ). per_flow * count + k) f

    go : (t : Bool) → ltb count most_kept ≡ t → stored_at (flows_kept done) count flow ≡ flows_kept (done ++ flow)
    go true t =
        let h = ltb-true count most_kept t in
        rw t
        (ap (λ (l : List ℕ). paste (padded kept_numbers 0 l) (per_flow * count) flow per_flow) (take_all kept_numbers done (omega arith))
        ∙ ap (λ (k : ℕ). paste (padded kept_numbers 0 done) (per_flow * count) flow k) (sym f)
        ∙ paste_padded kept_numbers (per_flow * count) done flow e (omega arith)
        ∙ ap (padded kept_numbers 0) (sym (take_all kept_numbers (done ++ flow) (omega (arith, both_long)))))
    go false t =
        let h = ltb-false count most_kept t in
        rw t (ap (padded kept_numbers 0) (sym (take-append-le kept_numbers done flow (omega arith))))
