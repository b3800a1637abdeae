-- `write_number` calls itself on the quotient by ten.
use Rattle.spelling.proofs.numbers.+write_number.Given as goal

abbrev pub decreases-write_number : goal.decreases-write_number
decreases-write_number l = l.n
