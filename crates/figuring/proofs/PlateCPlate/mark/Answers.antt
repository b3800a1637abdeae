-- Plate C's `mark` meets its contract.
use mathlib.Core.Path.{sym, ◌∙◌}
use Prim.Native.Nat.{◌*◌}
use lib.IntN.{sub_ℕ}
use native.Mathlib.Omega.{arith}
use Rattle.std.proofs.lemmas.Result.{err_from_is_err_and}
use Rattle.capacity.proofs.Most.{c_most}
use Rattle.capacity.proofs.Persons.{persons_most}
use Rattle.capacity.proofs.Answers.{c_rows}
use Rattle.figuring.proofs.Positive.{any_some}
use Rattle.figuring.proofs.Found.{found, lacked}
use Rattle.figuring.proofs.Marked.{unloaded_c, unreached_c, untested_c, empty_c, marks_c}
use Rattle.figuring.proofs.PlateCPlate.mark.Goals as goal

pub returns-then-not-rows_right : goal.returns-then-not-rows_right
returns-then-not-rows_right c = search c_rows

pub returns-in_err-load : goal.returns-in_err-load
returns-in_err-load c =
    let out = err_from_is_err_and c.from_residual.result c.from_residual.ensures.1 in
    let none = lacked _ c.ok_or.ensures.value c.in_err-load.was in
    rw (out.1, out.2, none.1)
    (unloaded_c _ _ _ _ c.rows_right.ensures c.if-not-rows_right.false c.load_c.ensures none.0)

pub returns-in_err-engine : goal.returns-in_err-engine
returns-in_err-engine c =
    let exit = c.from_residual-in_err-engine in
    let out = err_from_is_err_and exit.result exit.ensures.1 in
    let load = found _ c.ok_or.ensures.value c.in_ok-load.was in
    let none = lacked _ c.ok_or-2.ensures.value c.in_err-engine.was in
    rw (out.1, out.2, none.1)
    (unreached_c _ _ _ _ c.rows_right.ensures c.if-not-rows_right.false c.load_c.ensures load c.engine.ensures none.0)

pub returns-then-lacks_tests : goal.returns-then-lacks_tests
returns-then-lacks_tests c =
    let load = found _ c.ok_or.ensures.value c.in_ok-load.was in
    let engine = found _ c.ok_or-2.ensures.value c.in_ok-engine.was in
    untested_c _ _ _ _ c.rows_right.ensures c.if-not-rows_right.false c.load_c.ensures load c.engine.ensures engine
    c.lacks_tests.ensures c.if-lacks_tests.true

pub returns-in_err-persons : goal.returns-in_err-persons
returns-in_err-persons c =
    let exit = c.from_residual-in_err-persons in
    let out = err_from_is_err_and exit.result exit.ensures.1 in
    let load = found _ c.ok_or.ensures.value c.in_ok-load.was in
    let engine = found _ c.ok_or-2.ensures.value c.in_ok-engine.was in
    let none = lacked _ c.ok_or-3.ensures.value c.in_err-persons.was in
    rw (out.1, out.2, none.1)
    (empty_c _ _ _ _ c.rows_right.ensures c.if-not-rows_right.false c.load_c.ensures load c.engine.ensures engine
    c.lacks_tests.ensures c.if-lacks_tests.false c.persons.ensures none.0)

pub overflow_mul-gross : goal.overflow_mul-gross
overflow_mul-gross c =
    let load = any_some _ (sym c.load_c.ensures ∙ found _ c.ok_or.ensures.value c.in_ok-load.was) in
    omega (arith, load.0, c_most _ c.args.boat.within c.args.boat.weight)

pub overflow_cast-result : goal.overflow_cast-result
overflow_cast-result c =
    let load = any_some _ (sym c.load_c.ensures ∙ found _ c.ok_or.ensures.value c.in_ok-load.was) in
    omega (arith, load.0, c_most _ c.args.boat.within c.args.boat.weight)

pub overflow_cast-result-2 : goal.overflow_cast-result-2
overflow_cast-result-2 c =
    let count = any_some _ (sym c.persons.ensures ∙ found _ c.ok_or-3.ensures.value c.in_ok-persons.was) in
    let live = sub_ℕ (1000 * c.in_ok-load.load) c.in_ok-engine.engine in
    omega (arith, count.0, persons_most c.args.boat.sheet.now live c.args.boat.within)

pub returns : goal.returns
returns c =
    let load = found _ c.ok_or.ensures.value c.in_ok-load.was in
    let engine = found _ c.ok_or-2.ensures.value c.in_ok-engine.was in
    let persons = found _ c.ok_or-3.ensures.value c.in_ok-persons.was in
    marks_c _ _ _ _ c.rows_right.ensures c.if-not-rows_right.false c.load_c.ensures load c.engine.ensures engine
    c.lacks_tests.ensures c.if-lacks_tests.false c.persons.ensures persons
