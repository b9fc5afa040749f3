-- `words::writing::put_time` meets its contract: a tab, and the word or the number as the time says.
use mathlib.Core.Path.{◌≡◌, sym, ◌∙◌, ap}
use Prim.Native.Nat.{ℕ}
use Rattle.packet.specs.Table.{none}
use Rattle.digits.specs.Numbers.{decimal}
use Rattle.words.specs.Bytes.{bytes, tab}
use Rattle.words.specs.Fields.{time_field}
use mathlib.Core.List.{◌∷◌}
use native.Mathlib.Omega.{arith}
use borrow.Author.Tests.{eq-eqb, ne_eqb}
use Rattle.words.proofs.Putting.{put_next, put_as, put_within}
use Rattle.words.proofs.writing.put_time.Goals as goal

-- a skipped packet's time is the word
skipped : (time : ℕ) → time ≡ none → tab ∷ bytes "none" ≡ time_field time
unfolding time_field
skipped time e = sym (rw (eq-eqb time none e))

-- any other is the number
placed : (time : ℕ) → (time ≡ none → ⊥) → tab ∷ decimal time ≡ time_field time
unfolding time_field
placed time e = sym (rw (ne_eqb time none e))

pub returns-then-absent : goal.returns-then-absent
returns-then-absent c =
    put_as _ _ _ _ _ _ _ (skipped _ c.if-absent.true)
    (put_within 5 21 _ _ _ _ _ (omega arith) (put_next 1 4 _ _ _ _ _ _ _ _ (omega (arith, c.requires)) c.put_byte-next.ensures c.put_word.ensures))

pub returns : goal.returns
returns c =
    put_as _ _ _ _ _ _ _ (ap (λ (k : ℕ). tab ∷ decimal k) c.from.ensures ∙ placed _ c.if-absent.false)
    (put_next 1 20 _ _ _ _ _ _ _ _ c.requires c.put_byte-next.ensures c.put_number.ensures)
