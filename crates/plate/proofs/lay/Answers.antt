-- `lay` meets its contract: out has room for whatever is printed, so `print_plates` counts.
use native.Mathlib.Omega.{arith}
use mathlib.Core.Path.{◌≡◌, sym, ap, ◌∙◌}
use Rattle.std.specs.Prelude.{Result, Ok}
use Rattle.answers.specs.declared.Figures as Of
use Rattle.answers.specs.declared.Figures.TheVariants as Code
use Rattle.answers.specs.declared.Refused as Why
use Rattle.answers.specs.Values.{in_numbers}
use Rattle.answers.proofs.Told.{answer_tells}
use Rattle.printout.specs.Printed.{printed}
use lib.ListN.{length}
use Rattle.plate.proofs.Counted.{counts, prints}
use Rattle.plate.proofs.lay.Goals as goal
use Rattle.plate.proofs.lay.Goals.{After-print_plates}

-- the answer is a count
counted : (c : After-print_plates) → c.print_plates.result ≡ Ok (Code.Count (length (printed c.args.input.now)))
counted c = answer_tells (counts c.args.input.now c.args.out.now (omega arith) c.print_plates.ensures)

pub returns-in-Err : goal.returns-in-Err
returns-in-Err c =
    let z : ◌≡◌ {A = Result Of.Figures Why.Refused} _ _ =
    sym c.in-Err.is ∙ counted (goal.at.returns-in-Err c).After-print_plates in
    absurd (cc)

pub returns-in_default : goal.returns-in_default
returns-in_default c =
    let z : ◌≡◌ {A = Result Of.Figures Why.Refused} _ _ =
    sym c.in-Ok.is ∙ counted (goal.at.returns-in_default c).After-print_plates in
    absurd (c.in_default.not-Count (length (printed c.args.input.now)) (cc))

pub returns-in-Count : goal.returns-in-Count
returns-in-Count c =
    let laid =
    prints c.args.input.now c.args.out.now (omega arith) c.print_plates.auto.out c.print_plates.ensures
    (ap in_numbers (c.in-Ok.is ∙ ap Ok c.in-Count.is)) in
    record { prefix_len = laid.0; out_after = laid.1 }
