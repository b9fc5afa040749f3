-- `words::writing::put_number` meets its contract: the kit's `decimal` writes the number's digits, 20 at most, and the word is copied.
use mathlib.Core.Path.{◌∙◌}
use native.Mathlib.Omega.{arith}
use Rattle.digits.proofs.Decimals.{digits_are, digits_most}
use Rattle.words.proofs.Putting.{put_as, put_within}
use Rattle.words.proofs.writing.put_number.Goals as goal

pub returns : goal.returns
returns c =
    let few = digits_most _ _ c.ranges.n.fits c.decimal-k.ensures.len in
    put_as _ _ _ _ _ _ _ (c.decimal-k.ensures.digits ∙ digits_are _ _ c.decimal-k.ensures.len)
    (put_within _ 20 _ _ _ _ _ (omega (arith, few, c.decimal-k.ensures.in_bounds)) c.put_word.ensures)
