-- `digits::digits::read_number` meets its contract: the value so far with the digits from there on spells the field.
use mathlib.Core.Path.{◌≡◌}
use mathlib.Core.Bool.{true}
use lib.ListN.{drop}
use Rattle.digits.specs.Numbers.{all_digits, is_formed, value_from, value_of}
use Rattle.digits.proofs.digits.read_number.Given as goal

abbrev pub invariant-loop-byte : goal.invariant-loop-byte
invariant-loop-byte l = record {
  formed : is_formed l.digits l.field ≡ true;
  rest : all_digits (drop l.byte-index l.field) ≡ true;
  spells : value_from l.value (drop l.byte-index l.field) ≡ value_of l.field;
}
