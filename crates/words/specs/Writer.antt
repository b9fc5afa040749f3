-- Text written into a lent buffer, from a place on.
use Rattle.std.specs.Prelude.{◌≡◌, List, ◌++◌, ℕ, ◌+◌, ◌≤◌, length, drop}
use Rattle.std.proofs.Math.Seq.{paste}

-- a word of no more than `most` bytes was written at a place; the next place stands behind it, and all else stayed
pub record Put (most : ℕ) (before after : List ℕ) (at : ℕ) (word : List ℕ) (next : ℕ) : Type 0 where
  pub place : next ≡ at + length word
  pub size : length word ≤ most
  pub text : after ≡ paste before at word (length word)

-- a text at the front of a buffer whose other bytes stayed
unfoldable pub in_front : List ℕ → List ℕ → List ℕ
in_front text before = text ++ drop (length text) before
