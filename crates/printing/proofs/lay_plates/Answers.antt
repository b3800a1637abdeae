-- `lay_plates` meets its contract.
use mathlib.Core.Path.{◌≡◌, ap, ◌∙◌}
use mathlib.Core.List.{List}
use Prim.Native.Nat.{ℕ}
use Rattle.answers.specs.Values.{in_numbers}
use Rattle.sheet.proofs.Words.{words_length}
use Rattle.capacity.specs.Weights.{boat_m}
use Rattle.capacity.specs.Kinds.{PlateKind, kind_a, kind_c, plate_by, plate_of}
use Rattle.printout.specs.Printed.{plates_text}
use Rattle.measuring.proofs.Weighed.{weight_right}
use Rattle.printing.proofs.Laying.{first_in, both_long, both_laid}
use native.Mathlib.Omega.{arith}
use Rattle.printing.proofs.lay_plates.Goals as goal
use Rattle.printing.proofs.lay_plates.Goals.{After-mark, After-mark-2}

-- by the weight that was read off the sheet, a plate is the sheet's
by_sheet : (k : PlateKind) (s : List ℕ) {w : ℕ} → w ≡ boat_m s → plate_by k w s ≡ plate_of k s
by_sheet k s weight = ap (λ (n : ℕ). plate_by k n s) weight

plate_a_is : (c : After-mark) → in_numbers c.mark.result ≡ plate_of kind_a c.args.sheet.now
plate_a_is c =
    c.mark.ensures
    ∙ by_sheet kind_a c.args.sheet.now (weight_right _ c.weigh.ensures c.requires.0 c.unwrap.ensures)

plate_c_is : (c : After-mark-2)
    → in_numbers c.mark-2.result ≡ plate_of (kind_c c.args.rows.powers.now c.args.rows.weights.now) c.args.sheet.now
plate_c_is c =
    c.mark-2.ensures
    ∙ by_sheet (kind_c _ _) c.args.sheet.now (weight_right _ c.weigh.ensures c.requires.0 c.unwrap.ensures)

pub weigh-requires : goal.weigh-requires
weigh-requires c = omega (arith, words_length)

pub slice_bounds-lay_plate-count : goal.slice_bounds-lay_plate-count
unfolding plates_text
slice_bounds-lay_plate-count c =
    let first = plate_a_is (goal.at.slice_bounds-lay_plate-count c).After-mark in
    first_in (rw first at c.lay_plate-end.ensures) _ c.requires.1

pub slice_bounds-lay_plate-start : goal.slice_bounds-lay_plate-start
unfolding plates_text
slice_bounds-lay_plate-start c =
    let first = plate_a_is (goal.at.slice_bounds-lay_plate-start c).After-mark in
    first_in (rw first at c.lay_plate-end.ensures) _ c.requires.1

pub overflow_add-result : goal.overflow_add-result
unfolding plates_text
overflow_add-result c =
    let first = rw (plate_a_is (goal.at.overflow_add-result c).After-mark) at c.lay_plate-end.ensures in
    let then = rw (plate_c_is (goal.at.overflow_add-result c).After-mark-2) at c.lay_plate.ensures in
    omega (arith, both_long first then, c.requires.1, c.well_formed)

pub returns : goal.returns
unfolding plates_text
returns c =
    let first = rw (plate_a_is (goal.at.returns c).After-mark) at c.lay_plate-end.ensures in
    both_laid first (rw (plate_c_is (goal.at.returns c).After-mark-2) at c.lay_plate.ensures)
