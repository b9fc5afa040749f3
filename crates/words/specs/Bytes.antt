-- Text as bytes: quoted text, the byte between fields and the byte after a line, and when two texts are the same.
use Rattle.std.specs.Prelude.{Bool, true, false, List, [], ◌∷◌, ℕ, eqb}
use Prim.Native.Char.{code}
use Prim.Native.String.{String, [] as []ᵗ, ◌∷◌ as ◌∷ᵗ◌}
use Rattle.basics.specs.Choose.{both}

-- the bytes of a quoted text
abbrev pub bytes : String → List ℕ
bytes []ᵗ = []
bytes (c ∷ᵗ text) = code c ∷ bytes text

-- fields are parted by one tab
abbrev pub tab : ℕ
tab = 9

-- each line ends in a line feed
abbrev pub feed : ℕ
feed = 10

-- the same bytes in the same order
unfoldable pub same_bytes : List ℕ → List ℕ → Bool
same_bytes [] [] = true
same_bytes [] (y ∷ ys) = false
same_bytes (x ∷ xs) [] = false
same_bytes (x ∷ xs) (y ∷ ys) = both (eqb x y) (same_bytes xs ys)
