-- The measure of `gcd` is the second number, which a remainder is below.
use Rattle.hyperperiod.proofs.hyper.+gcd.Given as goal

abbrev pub decreases-gcd : goal.decreases-gcd
decreases-gcd l = l.b
