-- 01, Calls on the register: every call, with what its caller gives it, and its step: what it answers and what it
-- leaves. Desk and hull numbers are any numbers. The promises of the code cite `step`.
use Rattle.std.specs.Prelude.{ℕ, ◌+◌, List, [], ◌∷◌, length}
use Rattle.answers.specs.Answer.{Answer}
use Rattle.answers.specs.Answer.{Done, Count}
use Rattle.answers.specs.declared.WbAnswer.{WbAnswer}
use Rattle.answers.specs.Settled.{Settled}
use Rattle.answers.specs.Values.{faced}
use Rattle.sheet.specs.TextCalls.{write_answer, write_into}
use Rattle.capacity.specs.Kinds.{PlateKind, plate_by}
use Rattle.memory.specs.Layout.{hull_count, edit, hull_weight, hull_sheet, draft_hull, draft_weight, draft_sheet}
use Rattle.memory.specs.Updates.{fresh_words, entered, opened, fitted, replaced, dropped, saved}
use Rattle.register.specs.Refusals.{fresh_refusal, room_refusal, hull_refusal, open_refusal, desk_refusal, set_own}
use Rattle.register.specs.Refusals.{save_own, or_refused, leaves, sheet_of, on_text}

-- what a desk does on its draft: sets a fitting line to a weight and a count; takes a text's sheet; tries a plate
pub data Work : Type 0 where
  set_fitting : ℕ → ℕ → ℕ → Work
  replace : List ℕ → Work
  try_plate : PlateKind → Work

-- what is asked of a hull: a plate; the boat's weight, 02 (vii); and its text into a lent output, which is given as it
-- stood
pub data Ask : Type 0 where
  plate : PlateKind → Ask
  weigh : Ask
  write : List ℕ → Ask

pub data Call : Type 0 where
  new_hull : List ℕ → Call
  open_hull : ℕ → ℕ → Call
  work : ℕ → Work → Call
  save : ℕ → Call
  drop_draft : ℕ → Call
  ask : ℕ → Ask → Call

-- ---- the output that a call is lent; a call without one has none

abbrev pub ask_lent : Ask → List ℕ
ask_lent (plate k) = []
ask_lent weigh = []
ask_lent (write out) = out

abbrev pub lent : Call → List ℕ
lent (new_hull t) = []
lent (open_hull d h) = []
lent (work d w) = []
lent (save d) = []
lent (drop_draft d) = []
lent (ask h q) = ask_lent q

-- ---- what refuses a call before its own checks

abbrev pub shared : List ℕ → Call → ℕ
shared m (new_hull t) = room_refusal m
shared m (open_hull d h) = open_refusal m d h
shared m (work d w) = desk_refusal m d
shared m (save d) = desk_refusal m d
shared m (drop_draft d) = desk_refusal m d
shared m (ask h q) = hull_refusal m h

-- ---- what it then answers

-- work on a draft whose sheet is s and whose boat weighs w, both as the register holds them; and so below
abbrev pub work_answer : Work → ℕ → List ℕ → Answer
work_answer (set_fitting line weight count) w s = or_refused (set_own s line weight count) Done
work_answer (replace t) w s = on_text t Done
work_answer (try_plate k) w s = plate_by k w s

-- what is asked of hull h, whose sheet is s and whose boat weighs w; it is written under the register's number
abbrev pub ask_answer : ℕ → Ask → ℕ → List ℕ → Answer
ask_answer h (plate k) w s = plate_by k w s
ask_answer h weigh w s = Count w
ask_answer h (write out) w s = write_answer (h ∷ s) (length out)

-- a new hull answers its number; open and save answer the edit number
abbrev pub own : List ℕ → Call → Answer
own m (new_hull t) = on_text t (Count (hull_count m))
own m (open_hull d h) = Count (edit m h)
own m (work d w) = work_answer w (draft_weight m d) (draft_sheet m d)
own m (save d) = or_refused (save_own m d) (Count (edit m (draft_hull m d) + 1))
own m (drop_draft d) = Done
own m (ask h q) = ask_answer h q (hull_weight m h) (hull_sheet m h)

-- ---- what it makes, where nothing refuses it: of the memory, and of the lent output

abbrev pub work_makes : List ℕ → ℕ → Work → List ℕ
work_makes m d (set_fitting line weight count) = fitted m d line weight count
work_makes m d (replace t) = replaced m d (sheet_of t)
work_makes m d (try_plate k) = m

-- an open discards a draft that the desk held
abbrev pub makes : List ℕ → Call → List ℕ
makes m (new_hull t) = entered m (sheet_of t)
makes m (open_hull d h) = opened m d h
makes m (work d w) = work_makes m d w
makes m (save d) = saved m d
makes m (drop_draft d) = dropped m d
makes m (ask h q) = m

abbrev pub ask_fills : ℕ → Ask → List ℕ → List ℕ
ask_fills h (plate k) s = []
ask_fills h weigh s = []
ask_fills h (write out) s = write_into (h ∷ s) out

abbrev pub fills : List ℕ → Call → List ℕ
fills m (new_hull t) = []
fills m (open_hull d h) = []
fills m (work d w) = []
fills m (save d) = []
fills m (drop_draft d) = []
fills m (ask h q) = ask_fills h q (hull_sheet m h)

-- ---- the step of every call, and of fresh start: an answer, the memory after the call, and the lent output after it

pub record Step : Type 0 where
  pub answer : Answer
  pub memory : List ℕ
  pub output : List ℕ

abbrev pub replied : List ℕ → Call → Answer
replied m c = or_refused (shared m c) (own m c)

abbrev pub step : List ℕ → Call → Step
step m c =
    let a = replied m c in
    record { answer = a; memory = leaves a (makes m c) m; output = leaves a (fills m c) (lent c) }

abbrev pub fresh_step : List ℕ → Step
fresh_step m =
    let a = or_refused (fresh_refusal m) Done in
    record { answer = a; memory = leaves a fresh_words m; output = [] }

-- ---- what a call promises, of a memory that it may change or an output that it may write; and the same as C reads it

abbrev pub Changes : Step → Answer → List ℕ → Type 0
Changes s r left = Settled s.answer s.memory r left

abbrev pub Writes : Step → Answer → List ℕ → Type 0
Writes s r left = Settled s.answer s.output r left

abbrev pub WbChanges : Step → WbAnswer → List ℕ → Type 0
WbChanges s r left = Settled (faced s.answer) s.memory r left

abbrev pub WbWrites : Step → WbAnswer → List ℕ → Type 0
WbWrites s r left = Settled (faced s.answer) s.output r left
