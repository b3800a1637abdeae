-- `write_hull` meets its contract.
use mathlib.Core.Path.{refl, ◌∙◌}
use mathlib.Core.List.{◌∷◌}
use Rattle.memory.specs.Layout.{hull_sheet}
use Rattle.sheet.proofs.Refused.{write_refused}
use Rattle.register.proofs.Effects.{leaves_made}
use Rattle.answering.proofs.Settling.{passed}
use Rattle.answering.proofs.write_hull.Goals as goal

-- the sheet is the hull's, and writing leaves the output as it was where it is refused
pub returns : goal.returns
returns c =
    let hull = c.in_ok-hull_at.ensures in
    let sheet = rw (hull.found.0, hull.found.1) at c.sheet.ensures.value in
    let wrote = rw (c.numbered-words.ensures, sheet) at c.write_sheet.ensures in
    let words = c.args.hull ∷ hull_sheet c.args.mem.now c.args.hull in
    passed hull.refused _ _ _ refl
    (record {
      answered = wrote.answered;
      kept = wrote.kept ∙ leaves_made _ _ _ (write_refused words c.args.out.now);
    })
