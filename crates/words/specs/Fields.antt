-- What a line that is printed is made of, behind its word: fields, and the line feed.
use Rattle.std.specs.Prelude.{List, [], ◌∷◌, ℕ, eqb}
use Rattle.basics.specs.Choose.{choose}
use Rattle.packet.specs.Table.{none}
use Rattle.digits.specs.Numbers.{decimal}
use Rattle.words.specs.Bytes.{bytes, tab, feed}

-- a field: one tab, and a number
unfoldable pub field : ℕ → List ℕ
field n = tab ∷ decimal n

-- a time, with the word `none` for a skipped packet
unfoldable pub time_field : ℕ → List ℕ
time_field time = tab ∷ choose (eqb time none) (bytes "none") (decimal time)

-- each line ends in a line feed
unfoldable pub ended : List ℕ
ended = feed ∷ []
