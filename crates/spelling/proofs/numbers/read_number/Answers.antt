-- `read_number` meets its contract.
use Rattle.std.proofs.Common.{◌≡◌, sym, ◌∙◌, arith, get_or}
use Rattle.text.specs.Quoted.{digit0}
use Rattle.text.proofs.NumberSteps.{number_empty, number_zero, zero_alone_lem, zero_led}
use Rattle.spelling.proofs.numbers.read_number.Goals as goal

pub returns-in-empty : goal.returns-in-empty
returns-in-empty c = sym (number_empty _ (omega arith))

pub returns-in-48 : goal.returns-in-48
returns-in-48 c =
    let f = c.args.f.now in
    let z : get_or f 0 0 ≡ digit0 = omega arith in
    sym (number_zero f (omega arith) z ∙ zero_alone_lem f (omega arith))

pub returns-in-48-2 : goal.returns-in-48-2
returns-in-48-2 c =
    let f = c.args.f.now in
    let z : get_or f 0 0 ≡ digit0 = omega arith in
    sym (number_zero f (omega arith) z ∙ zero_led f (omega arith) (omega arith))
