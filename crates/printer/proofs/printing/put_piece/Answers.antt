-- `printer::printing::put_piece` meets its contract: a buffer with no room takes nothing, and behind all lines nothing is put.
use mathlib.Core.Path.{refl}
use Rattle.printer.proofs.Pieces.{no_room, no_line_lem}
use Rattle.printer.proofs.printing.put_piece.Goals as goal

pub returns-then-out-lt-LINE : goal.returns-then-out-lt-LINE
returns-then-out-lt-LINE c = no_room _ _ _ _ _ _ c.if-out-lt-LINE.true

pub returns-in-Done : goal.returns-in-Done
returns-in-Done c = rw c.in-Done.is (no_line_lem _ _ _ _ _ _ c.if-out-lt-LINE.false refl)
