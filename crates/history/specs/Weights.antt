-- 02 (vii): what a history tells of a hull's weight, with no memory in sight: its weight when it was entered, and the
-- difference that each accepted save of it made, which is the sum of what the accepted calls of the save's block made.
-- Histories are newest first.
use Rattle.std.specs.Prelude.{ℕ, ◌*◌, Bool, false, cond, List, [], ◌∷◌, eqb, ℤ, pos, ◌+ℤ◌, ◌-ℤ◌}
use Rattle.answers.specs.Answer.{Answer}
use Rattle.answers.specs.Answer.{Refused, RefusedAt, Done, Count, Plate}
use Rattle.capacity.specs.Weights.{line_weight, boat_m}
use Rattle.register.specs.Refusals.{sheet_of}
use Rattle.register.specs.Calls.{Work, set_fitting, replace, try_plate, new_hull, open_hull, work, save, drop_draft, ask}
use Rattle.history.specs.Replies.{accepted}
use Rattle.history.specs.Runs.{Event, ◌⇒◌}
use Rattle.history.specs.History.{block}
use Rattle.history.specs.Told.{is_save_of, redo}

-- ---- what an event is to hull h, after that past

-- its entry, with the sheet of its text; an accepted save of it, with the save's block; or nothing to it
pub data Mark : Type 0 where
  its_entry : List ℕ → Mark
  its_save : List Event → Mark
  no_mark : Mark

-- whether an answer is the number h
abbrev is_number : ℕ → Answer → Bool
is_number h (Refused n) = false
is_number h (RefusedAt n line byte) = false
is_number h Done = false
is_number h (Count n) = eqb h n
is_number h (Plate load figure) = false

unfoldable pub mark : ℕ → Event → List Event → Mark
mark h (new_hull t ⇒ r) past = cond (is_number h r.answer) (its_entry (sheet_of t)) no_mark
mark h (open_hull d k ⇒ r) past = no_mark
mark h (work d w ⇒ r) past = no_mark
mark h (save d ⇒ r) past = cond (is_save_of h (save d ⇒ r) past) (its_save (block d past)) no_mark
mark h (drop_draft d ⇒ r) past = no_mark
mark h (ask k q ⇒ r) past = no_mark

-- its sheet: that of the text it was entered with, with the work of each accepted save's block done on it
unfoldable pub sheet_told : ℕ → List Event → List ℕ
sheet_told h [] = []
sheet_told h (e ∷ past) =
    elim (mark h e past) [ its_entry s ↦ s | its_save b ↦ redo b (sheet_told h past) | no_mark ↦ sheet_told h past ]

-- ---- differences

-- what a piece of accepted work does to what the boat weighs by the sheet s
abbrev pub work_moves : Work → List ℕ → ℤ
work_moves (set_fitting line weight count) s = pos (weight * count) -ℤ pos (line_weight s line)
work_moves (replace t) s = pos (boat_m (sheet_of t)) -ℤ pos (boat_m s)
work_moves (try_plate k) s = pos 0

-- and what an event does: nothing but accepted work moves it
abbrev pub moves : Event → List ℕ → ℤ
moves (new_hull t ⇒ r) s = pos 0
moves (open_hull d h ⇒ r) s = pos 0
moves (work d w ⇒ r) s = cond (accepted r) (work_moves w s) (pos 0)
moves (save d ⇒ r) s = pos 0
moves (drop_draft d ⇒ r) s = pos 0
moves (ask h q ⇒ r) s = pos 0

-- the sum of a block's, each by the sheet as the calls before it left it
unfoldable pub block_moves : List Event → List ℕ → ℤ
block_moves [] s = pos 0
block_moves (e ∷ b) s = block_moves b s +ℤ moves e (redo b s)

-- ---- a hull's weight

-- when it was entered
unfoldable pub entered_weight : ℕ → List Event → ℕ
entered_weight h [] = 0
entered_weight h (e ∷ past) =
    elim (mark h e past) [
      | its_entry s ↦ boat_m s
      | its_save b ↦ entered_weight h past
      | no_mark ↦ entered_weight h past
    ]

-- the differences that its accepted saves made
unfoldable pub differences : ℕ → List Event → List ℤ
differences h [] = []
differences h (e ∷ past) =
    elim (mark h e past) [
      | its_entry s ↦ []
      | its_save b ↦ block_moves b (sheet_told h past) ∷ differences h past
      | no_mark ↦ differences h past
    ]

unfoldable pub together : List ℤ → ℤ
together [] = pos 0
together (z ∷ zs) = together zs +ℤ z

-- its weight when entered, and the differences
abbrev pub weight_told : ℕ → List Event → ℤ
weight_told h past = pos (entered_weight h past) +ℤ together (differences h past)
