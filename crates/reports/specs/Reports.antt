-- What the answer says of what the passes leave.
use Rattle.std.specs.Prelude.{not, ℕ, eqb}
use Rattle.basics.specs.Choose.{choose}
use Rattle.basics.specs.First.{first}
use Rattle.basics.specs.Sums.{count_of}
use Rattle.packet.specs.Table.{placed}
use Rattle.model.specs.declared.answers.Answer.{Answer}
use Rattle.passes.specs.declared.repeat.Outcome.{Outcome}

-- 0: search complete; 13: search ended with skipped packets
unfoldable pub number_for : ℕ → ℕ
number_for skipped = choose (eqb skipped 0) 0 13

-- 0 carries no place, 13 the lowest skipped packet
unfoldable pub place_for : ℕ → ℕ → ℕ
place_for skipped lowest = choose (eqb skipped 0) 0 lowest

-- the answer of a search that was not refused, read off what the passes leave
unfoldable pub report_of : Outcome → ℕ → ℕ → Answer
report_of found hyper n = record {
  number = number_for (count_of (λ p. not (placed found.times p)) n);
  place = place_for (count_of (λ p. not (placed found.times p)) n) (first (λ p. not (placed found.times p)) n);
  other = 0;
  hyper = hyper;
  packets = n;
  passes = found.passes;
  tries = found.tries;
  skipped = count_of (λ p. not (placed found.times p)) n;
}
