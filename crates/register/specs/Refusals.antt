-- 01, Refusal numbers, the order of the checks: the memory, the desk, the hull, the draft, and then what only this call
-- asks. A refusal is its number, and 0 stands for none; that of a text has its place too. A refused call changes
-- nothing.
use Rattle.std.specs.Prelude.{ℕ, ◌&&◌, cond, List, [], eqb, leb, ltb, length, get_or, drop}
use Rattle.form.specs.Outcome.{right, wrong}
use Rattle.answers.specs.Refusals.{bad_memory, outside_limits, full, no_hull, no_desk, no_draft, edited_since, edits_spent}
use Rattle.answers.specs.Refusals.{empty_line}
use Rattle.answers.specs.Answer.{Answer}
use Rattle.answers.specs.Answer.{Refused, RefusedAt, Done, Count, Plate}
use Rattle.sheet.specs.Places.{fitting_word}
use Rattle.sheet.specs.Lines.{fittings}
use Rattle.sheet.specs.Sheet.{no_fitting, fit_ok}
use Rattle.sheet.specs.SheetText.{read_sheet}
use Rattle.memory.specs.Layout.{most_hulls, desks, register_words, hull_count, edit, held, draft_hull, opening}
use Rattle.memory.specs.Formed.{most_edits, formed}

-- ---- what calls share

-- fresh start: the size alone, whatever the words are
abbrev pub fresh_refusal : List ℕ → ℕ
fresh_refusal m = cond (eqb (length m) register_words) 0 bad_memory

-- a new hull, before its text is read
unfoldable pub room_refusal : List ℕ → ℕ
room_refusal m = cond (formed m) (cond (ltb (hull_count m) most_hulls) 0 full) bad_memory

-- a call on a hull
unfoldable pub hull_refusal : List ℕ → ℕ → ℕ
hull_refusal m h = cond (formed m) (cond (ltb h (hull_count m)) 0 no_hull) bad_memory

-- open
unfoldable pub open_refusal : List ℕ → ℕ → ℕ → ℕ
open_refusal m d h = cond (formed m) (cond (ltb d desks) (cond (ltb h (hull_count m)) 0 no_hull) no_desk) bad_memory

-- a call on a desk's draft
unfoldable pub desk_refusal : List ℕ → ℕ → ℕ
desk_refusal m d = cond (formed m) (cond (ltb d desks) (cond (eqb (held m d) 0) no_draft 0) no_desk) bad_memory

-- ---- what only this call asks

-- set a fitting line, 02 (ix): that there is such a line and that it may have this weight and count, both 0 to empty
-- it; and then, of a line that is to be emptied, that it is not empty on the sheet s, which its weight tells
abbrev pub set_own : List ℕ → ℕ → ℕ → ℕ → ℕ
set_own s line weight count =
    cond (leb 1 line && (leb line fittings && fit_ok weight count))
    (cond (no_fitting weight count && eqb (get_or s (fitting_word line) 0) 0) empty_line 0) outside_limits

-- save: that the hull was not edited since the open, and then that an edit number is left
abbrev pub save_own : List ℕ → ℕ → ℕ
save_own m d =
    let e = edit m (draft_hull m d) in
    cond (eqb e (opening m d)) (cond (eqb e most_edits) edits_spent 0) edited_since

-- ---- an answer by its refusal, and what it leaves

abbrev pub or_refused : ℕ → Answer → Answer
or_refused refusal a = cond (eqb refusal 0) a (Refused refusal)

-- what a call that so answers leaves: refused, what was there before it
abbrev pub leaves : {A : Type 0} → Answer → A → A → A
leaves (Refused number) after before = before
leaves (RefusedAt number line byte) after before = before
leaves Done after before = after
leaves (Count n) after before = after
leaves (Plate load figure) after before = after

-- ---- a text that is read

-- the sheet of a text that can be read, without its HULL number, which is judged and then ignored
abbrev pub sheet_of : List ℕ → List ℕ
sheet_of t = elim (read_sheet t) [ right s ↦ drop 1 s | wrong number line byte ↦ [] ]

abbrev pub on_text : List ℕ → Answer → Answer
on_text t read = elim (read_sheet t) [ right s ↦ read | wrong number line byte ↦ RefusedAt number line byte ]
