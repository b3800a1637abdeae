-- `add_words` meets its contract.
use Rattle.std.proofs.Common.{◌∙◌, ◌++◌, List, ℕ, ap}
use Rattle.ground.proofs.Stores.{rest_part}
use Rattle.text.specs.Line.{line_text}
use Rattle.sheet.specs.Sheet.{limit_rows, limits_on}
use Rattle.writing.specs.Pieces.{line_from}
use Rattle.writing.proofs.LineByLine.{due, step}
use Rattle.writing.proofs.add_words.Goals as goal

pub add-requires-clause-room : goal.add-requires-clause-room
unfolding limit_rows limits_on
add-requires-clause-room c =
    rw (rest_part c.args.sheet.now c.args.words.start) (due c.requires.next c.requires.so_far)

pub returns : goal.returns
unfolding limit_rows limits_on
returns c =
    let line = line_from c.args.tag.now c.args.words.start c.args.words.end in
    step c.requires.next c.requires.so_far (c.add.ensures
    ∙ ap (λ (x : List ℕ). c.args.page.now ++ line_text line x) (rest_part c.args.sheet.now c.args.words.start))
