-- `words::writing::put_field` meets its contract: a tab and a number, one after the other.
use Rattle.words.specs.Fields.{field}
use Rattle.words.proofs.Putting.{put_next}
use Rattle.words.proofs.writing.put_field.Goals as goal

pub returns : goal.returns
unfolding field
returns c = put_next 1 20 _ _ _ _ _ _ _ _ c.requires c.put_byte-next.ensures c.put_number.ensures
