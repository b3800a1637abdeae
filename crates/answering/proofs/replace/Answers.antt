-- `replace` meets its contract.
use mathlib.Core.Path.{refl, sym, ap, ◌∙◌}
use Rattle.memory.specs.Updates.{replaced}
use Rattle.memory.proofs.Sound.{sound}
use Rattle.register.proofs.Refusals.{desk_goes}
use Rattle.measuring.proofs.Weighed.{weight_there, weight_right}
use Rattle.reading.proofs.Heard.{heard_right}
use Rattle.answering.proofs.Sheets.{read_lent, read_within, read_long}
use Rattle.answering.proofs.Settling.{passed, done, text_passed}
use Rattle.answering.proofs.replace.Goals as goal

pub unwrap-weight-requires : goal.unwrap-weight-requires
unwrap-weight-requires c =
    weight_there _ c.weigh.ensures (read_within c.args.text.now c.in_ok-read_words.ensures)

pub replace_sheet-requires : goal.replace_sheet-requires
replace_sheet-requires c =
    let g = desk_goes c.args.mem.now c.args.desk (sym c.in_ok-draft_at.ensures.refused) in
    let read = c.in_ok-read_words.ensures in
    record {
      size = (sound c.args.mem.now g.ok).size;
      desk = g.desk;
      sheet = read_long c.args.text.now read;
      weight = weight_right _ c.weigh.ensures (read_within c.args.text.now read) c.unwrap-weight.ensures;
    }

pub returns : goal.returns
returns c =
    let read = c.in_ok-read_words.ensures in
    passed c.in_ok-draft_at.ensures.refused _ _ _ refl
    (text_passed _ _ _ _ (heard_right read)
    (done (c.replace_sheet.ensures ∙ ap (replaced c.args.mem.now c.args.desk) (read_lent c.args.text.now read))))
