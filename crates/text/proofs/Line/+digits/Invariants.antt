-- the number, of which each call takes a hundredth
use Rattle.text.proofs.Line.+digits.Given as goal

abbrev pub decreases-digits : goal.decreases-digits
decreases-digits l = l.n
