-- `load_u` meets its contract.
use mathlib.Core.Path.{ap, ◌∙◌}
use borrow.Author.Tests.{eq-eqb, ne_eqb}
use Rattle.capacity.specs.Whole.{or_zero}
use Rattle.capacity.specs.PlateU.{inboard_fifth, inboard_seventh, pounds}
use Rattle.capacity.proofs.PoundsWorked.{marked_fifth, marked_tenths, marked_greater}
use Rattle.figuring.specs.Positive.{if_any}
use Rattle.figuring.proofs.Positive.{greater_any}
use Rattle.figuring.proofs.boat.Boat.load_u.Goals as goal

pub returns-then-word-gt-TWO_HORSES : goal.returns-then-word-gt-TWO_HORSES
returns-then-word-gt-TWO_HORSES c =
    c.pounds_of.ensures
    ∙ rw (c.from-boat.ensures, c.wide.ensures.0)
    (ap if_any
    (marked_fifth _ _ (rw c.word.ensures at (eq-eqb _ _ c.if-word-eq1.true))
    (rw c.word-then-word-eq1.ensures at c.if-word-gt-TWO_HORSES.true)))

pub returns-else-word-gt-TWO_HORSES : goal.returns-else-word-gt-TWO_HORSES
returns-else-word-gt-TWO_HORSES c =
    c.pounds_of-else-word-gt-TWO_HORSES.ensures
    ∙ rw c.from-boat.ensures
    (ap if_any
    (marked_tenths _ _ (rw c.word.ensures at (eq-eqb _ _ c.if-word-eq1.true))
    (rw c.word-then-word-eq1.ensures at c.if-word-gt-TWO_HORSES.false)))

pub returns-else-word-eq1 : goal.returns-else-word-eq1
returns-else-word-eq1 c =
    let m = c.args.self.weight in
    let s = c.args.self.sheet.now in
    c.max.ensures
    ∙ rw (
      c.pounds_of-fifth.ensures,
      c.pounds_of-else-word-eq1.ensures,
      c.from-boat.ensures,
      c.wide.ensures.0,
      c.wide-else-word-eq1.ensures.0,
    )
    (greater_any (or_zero (pounds s (inboard_fifth m s))) (or_zero (pounds s (inboard_seventh m s)))
    ∙ ap if_any (marked_greater m s (rw c.word.ensures at (ne_eqb _ _ c.if-word-eq1.false))))
