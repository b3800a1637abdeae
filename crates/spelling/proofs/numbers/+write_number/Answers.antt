-- `write_number` meets its contract.
use Prim.Native.Nat.{◌/◌}
use native.Mathlib.Omega.{arith}
use Rattle.text.proofs.Number.{length_digits_twenty}
use Rattle.text.proofs.Laid.{laid_digit, laid_digits}
use Rattle.spelling.proofs.numbers.+write_number.Goals as goal

pub overflow_add-result : goal.overflow_add-result
overflow_add-result t c =
    let l = length_digits_twenty (c.args.n / 10) (omega arith) in
    omega (arith, c.write_number-at.ensures.end)

pub returns-then-n-lt10 : goal.returns-then-n-lt10
returns-then-n-lt10 t c = laid_digit _ _ _ c.if-n-lt10.true c.store.ensures

pub returns-else-n-lt10 : goal.returns-else-n-lt10
returns-else-n-lt10 t c = laid_digits _ _ _ _ _ c.if-n-lt10.false c.write_number-at.ensures c.store-else-n-lt10.ensures
