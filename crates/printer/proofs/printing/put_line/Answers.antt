-- `printer::printing::put_line` meets its contract: a word, its fields and a line feed, one after the other.
use mathlib.Core.Path.{sym, ◌∙◌, ap}
use mathlib.Core.List.{List, ◌++◌}
use Prim.Native.Nat.{ℕ, ◌+◌, ◌*◌, ◌≤◌, ◌<◌}
use native.Mathlib.Numerals.{add-one}
use native.Mathlib.Omega.{arith}
use lib.ListN.{length, get_or, drop}
use lib.Seq.{drop-cons}
use Rattle.std.proofs.lemmas.List.{drop_all}
use Rattle.words.specs.Fields.{ended}
use Rattle.words.specs.Writer.{Put}
use Rattle.words.proofs.Putting.{put_next, put_as, put_within}
use Rattle.printer.specs.Printer.{field_text, line_of, longest}
use Rattle.printer.specs.declared.printing.Field.{Field}
use Rattle.printer.proofs.printing.put_line.Invariants.{Standing}
use borrow.Author.Rules.{rules}
use Rattle.printer.proofs.printing.put_line.Goals as goal

module _ (word : List ℕ) (fields : List Field) (before out : List ℕ) (i next : ℕ) (s : Standing word fields before out i next) where
  -- one field more
  onward : (d : Field) (after : List ℕ) (next' : ℕ) → i < length fields → Put 21 out after next (field_text (get_or fields i d)) next'
      → Standing word fields before after (i + 1) next'
  unfolding line_of
  onward d after next' h p = record {
    room = s.room;
    text = s.text ++ field_text (get_or fields i d);
    stands =
        put_within _ (6 + 21 * (i + 1)) _ _ _ _ _ (omega arith)
        (put_next (6 + 21 * i) 21 _ _ _ _ _ _ _ _ (omega (arith, s.room)) s.stands p);
    rest =
        ap (λ (k : ℕ). line_of (s.text ++ field_text (get_or fields i d)) (drop k fields)) (add-one i)
        ∙ ap (line_of s.text) (sym (drop-cons fields i d h))
        ∙ s.rest;
  }

  -- the whole line
  whole : (after : List ℕ) (end : ℕ) → i ≤ length fields → length fields ≤ i → Put 1 out after next ended end
      → Put longest before after 0 (line_of word fields) end
  unfolding line_of
  whole after end g h p =
      put_as _ _ _ _ _ _ _ (ap (line_of s.text) (sym (drop_all i fields h)) ∙ s.rest)
      (put_within _ longest _ _ _ _ _ (omega (arith, s.room)) (put_next (6 + 21 * i) 1 _ _ _ _ _ _ _ _ (omega (arith, s.room)) s.stands p))

pub loop-field-preserved : goal.loop-field-preserved
loop-field-preserved c = onward _ _ _ _ _ _ c.loop-field.invariant _ _ _ c.loop-field-test.true c.put-next.ensures

pub returns : goal.returns
unfolding ended
returns c = whole _ _ _ _ _ _ c.loop-field.invariant _ _ (search rules) c.loop-field-test.false c.put_byte.ensures
