-- A mark as one byte: 0 for none, a flow's number and one for its own.
use Rattle.std.specs.Prelude.{◌≡◌, Option, None, Some, ℕ, zero, suc, refl}
use mathlib.Core.Path.{ap}
use Rattle.marks.specs.declared.marks.Mark.TheInside.{Inside}

-- the flow whose mark a byte is
abbrev pub flow_of_byte : ℕ → Option ℕ
flow_of_byte zero = None
flow_of_byte (suc g) = Some g

-- and back
abbrev pub byte_of_flow : Option ℕ → ℕ
byte_of_flow None = zero
byte_of_flow (Some g) = suc g

-- the byte of a mark is known from the flow
back_of : (b : ℕ) → byte_of_flow (flow_of_byte b) ≡ b
back_of zero = refl
back_of (suc g) = refl

pub byte_back : (m : Inside) → record { 0 = byte_of_flow (flow_of_byte m.0) } ≡ m
byte_back m = ap (λ (b : ℕ). record { 0 = b }) (back_of m.0)
