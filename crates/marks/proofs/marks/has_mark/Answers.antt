-- `has_mark` compares the bytes of two marks.
use mathlib.Core.Path.{◌∙◌, ap}
use Prim.Native.Nat.{ℕ}
use native.Mathlib.Omega.{arith}
use lib.ListN.{get_or}
use lib.Dec.{eqb}
use Rattle.std.specs.Prelude.{Option, Some, None}
use Rattle.std.specs.Option.{option_eq}
use Rattle.basics.proofs.Lists.{read_any}
use Rattle.marks.specs.Marks.{has_mark}
use Rattle.marks.specs.Byte.{byte_of_flow}
use Rattle.marks.proofs.Bytes.{same_byte}
use Rattle.marks.proofs.marks.has_mark.Goals as goal

pub returns : goal.returns
unfolding has_mark
returns c =
    c.eq.ensures
    ∙ ap (λ (m : Option ℕ). eqb (byte_of_flow (get_or c.args.marks.now c.from.result c.index-marks-from.result)) (byte_of_flow m)) c.of.ensures
    ∙ same_byte (get_or c.args.marks.now c.from.result c.index-marks-from.result) c.args.own
    ∙ ap (λ (m : Option ℕ). option_eq eqb m (Some c.args.own))
    (read_any c.args.marks.now c.from.result c.index-marks-from.result None (omega (arith, c.type_inv.marks, c.from.ensures, c.requires.1))
    ∙ ap (λ (n : ℕ). get_or c.args.marks.now n None) c.from.ensures)
