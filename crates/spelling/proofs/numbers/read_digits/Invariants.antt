-- How far `read_digits` has come.
use Rattle.text.proofs.Digits.{Digits}
use Rattle.spelling.proofs.numbers.read_digits.Given as goal

abbrev pub invariant-loop-i : goal.invariant-loop-i
invariant-loop-i l = Digits l.f l.n l.i
