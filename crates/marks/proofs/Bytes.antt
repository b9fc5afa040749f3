-- Two bytes are equal exactly where the marks are.
use mathlib.Core.Path.{◌≡◌, ap}
use Prim.Native.Nat.{ℕ, suc}
use native.Mathlib.Omega.{arith}
use lib.Dec.{eqb}
use borrow.Author.Tests.{eqb-true, eq-eqb}
use Rattle.std.specs.Prelude.{Option, None, Some}
use Rattle.std.specs.Option.{option_eq}
use Rattle.std.proofs.lemmas.Bool.{ne_eqb}
use Rattle.basics.proofs.Choose.{same_test}
use Rattle.marks.specs.Byte.{byte_of_flow}

-- the byte of a mark is that of a flow's where the mark is the flow's
pub same_byte : (m : Option ℕ) (g : ℕ) → eqb (byte_of_flow m) (byte_of_flow (Some g)) ≡ option_eq eqb m (Some g)
same_byte None g = ne_eqb 0 (suc g) (λ e. omega arith)
same_byte (Some h) g =
    same_test _ _
    (λ e. eq-eqb h g (omega (arith, eqb-true (suc h) (suc g) e)))
    (λ e. eq-eqb (suc h) (suc g) (ap suc (eqb-true h g e)))
