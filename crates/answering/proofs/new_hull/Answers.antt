-- `new_hull` meets its contract.
use mathlib.Core.Path.{refl, sym, ap, ◌∙◌}
use Rattle.answers.specs.Answer.{Count}
use Rattle.memory.specs.Updates.{entered}
use Rattle.memory.proofs.Sound.{sound}
use Rattle.register.proofs.Refusals.{room_goes}
use Rattle.measuring.proofs.Weighed.{weight_there, weight_right}
use Rattle.reading.proofs.Heard.{heard_right}
use Rattle.answering.proofs.Sheets.{read_lent, read_within, read_long}
use Rattle.answering.proofs.Settling.{passed, text_passed}
use Rattle.answering.proofs.new_hull.Goals as goal

pub unwrap-weight-requires : goal.unwrap-weight-requires
unwrap-weight-requires c =
    weight_there _ c.weigh.ensures (read_within c.args.text.now c.in_ok-read_words.ensures)

pub enter_hull-requires : goal.enter_hull-requires
enter_hull-requires c =
    let g = room_goes c.args.mem.now (sym c.in_ok-check_room.ensures) in
    let read = c.in_ok-read_words.ensures in
    record {
      size = (sound c.args.mem.now g.ok).size;
      room = g.room;
      sheet = read_long c.args.text.now read;
      weight = weight_right _ c.weigh.ensures (read_within c.args.text.now read) c.unwrap-weight.ensures;
    }

pub returns : goal.returns
returns c =
    let read = c.in_ok-read_words.ensures in
    passed c.in_ok-check_room.ensures _ _ _ refl
    (text_passed _ _ _ _ (heard_right read)
    (record {
      answered = ap Count c.enter_hull.ensures.value;
      kept = c.enter_hull.ensures.mem_after ∙ ap (entered c.args.mem.now) (read_lent c.args.text.now read);
    }))
