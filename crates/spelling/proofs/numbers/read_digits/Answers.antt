-- `read_digits` meets its contract.
use Rattle.std.proofs.Common.{◌≡◌, ℕ, sym, arith, get_or, take}
use Rattle.std.proofs.lemmas.List.{length-take, get_or-take}
use Rattle.text.proofs.Digits.{digits_none, digits_nine, digits_next, digits_stop, digits_full, digits_end}
use Rattle.spelling.proofs.numbers.read_digits.Goals as goal
use Rattle.spelling.proofs.numbers.read_digits.Goals.{After-is_ascii_digit}

-- the byte that is looked at is the field's
here : (c : After-is_ascii_digit)
    → get_or (take c.min-end.result c.args.f.now) c.loop-i.i 0 ≡ get_or c.args.f.now c.loop-i.i 0
here c = get_or-take c.min-end.result c.args.f.now c.loop-i.i 0 (omega (arith, length-take {A = ℕ}))

pub loop-i-init : goal.loop-i-init
loop-i-init c = digits_none c.args.f.now c.requires.0 c.requires.1

pub returns-then-not-is_ascii_digit : goal.returns-then-not-is_ascii_digit
returns-then-not-is_ascii_digit c =
    let e = here (goal.at.returns-then-not-is_ascii_digit c).After-is_ascii_digit in
    let d = rw e at (sym c.if-not-is_ascii_digit.ensures.value) in
    sym (digits_stop c.loop-i.invariant (omega (arith, length-take {A = ℕ})) d)

pub overflow_mul-n : goal.overflow_mul-n
overflow_mul-n c = omega (arith, digits_nine c.loop-i.invariant (omega (arith, length-take {A = ℕ})))

pub overflow_add-n : goal.overflow_add-n
overflow_add-n c = omega (arith, digits_nine c.loop-i.invariant (omega (arith, length-take {A = ℕ})))

pub loop-i-preserved : goal.loop-i-preserved
loop-i-preserved c =
    let e = here (goal.at.loop-i-preserved c).After-is_ascii_digit in
    let d = rw e at (sym c.if-not-is_ascii_digit.ensures.value) in
    rw (c.from.ensures, e)
    (digits_next c.loop-i.invariant (omega (arith, length-take {A = ℕ})) (omega (arith, length-take {A = ℕ})) d)

pub returns-then-end-f : goal.returns-then-end-f
returns-then-end-f c =
    let e : c.loop-i.i ≡ c.min-end.result = omega (arith, length-take {A = ℕ}) in
    rw (← e) (sym (digits_full c.loop-i.invariant (omega arith) (omega arith)))

pub returns-else-end-f : goal.returns-else-end-f
returns-else-end-f c = sym (digits_end c.loop-i.invariant (omega (arith, length-take {A = ℕ})))
