-- The register as the office would draw it, with no words of memory: hulls, drafts, and what each call does to them. No
-- weight is drawn, since a sheet tells it. A tool of the proofs alone: `Shown.antt` ties it to the memory of the calls,
-- and no theorem of `Theorems.antt` speaks of it.
use Prim.Native.Nat.{ℕ, suc}
use mathlib.Core.Bool.{cond}
use mathlib.Core.List.{List}
use mathlib.Core.Option.{Option, none}
use lib.Dec.{eqb}
use Rattle.answers.specs.Answer.{Answer}
use Rattle.answers.specs.Answer.{Refused}
use Rattle.capacity.specs.Weights.{boat_m}
use Rattle.register.specs.Refusals.{leaves, sheet_of}
use Rattle.register.specs.Calls.{Work, Ask, Call, ask_lent, lent, work_answer, ask_answer, ask_fills}
use Rattle.history.specs.Replies.{Reply, says, accepted}
use Rattle.history.specs.Told.{worked}

pub record Hull : Type 0 where
  pub sheet : List ℕ
  pub edits : ℕ

pub record Draft : Type 0 where
  pub hull : ℕ
  pub opening : ℕ
  pub sheet : List ℕ

pub record Register : Type 0 where
  pub entered : ℕ
  pub hull : ℕ → Hull

pub record State : Type 0 where
  pub register : Register
  pub draft : ℕ → Option Draft

pub record Outcome : Type 0 where
  pub state : State
  pub reply : Reply

-- ---- what is answered of a sheet

-- work on a draft whose sheet is s: the reply, and the sheet after it
unfoldable pub work_says : Work → List ℕ → Reply
work_says w s = says (work_answer w (boat_m s) s)

abbrev work_done : Work → List ℕ → List ℕ
work_done w s = cond (accepted (work_says w s)) (worked w s) s

-- what is asked of hull h, whose sheet is s
unfoldable pub ask_says : ℕ → Ask → List ℕ → Reply
ask_says h q s =
    let a = ask_answer h q (boat_m s) s in record { answer = a; output = leaves a (ask_fills h q s) (ask_lent q) }

-- a call that is refused: what it was lent is as it stood
abbrev pub refusal : Call → ℕ → Reply
refusal c n = record { answer = Refused n; output = lent c }

abbrev pub refuse : State → Call → ℕ → Outcome
refuse s c n = record { state = s; reply = refusal c n }

abbrev pub gives : State → Answer → Outcome
gives s a = record { state = s; reply = says a }

-- ---- a state with one thing changed

-- f but for i, which has a
abbrev pub but : {A : Type 0} → (ℕ → A) → ℕ → A → ℕ → A
but f i a j = cond (eqb j i) a (f j)

abbrev pub at_desk : State → ℕ → Option Draft → State
at_desk s d o = record { register = s.register; draft = but s.draft d o }

abbrev pub enter : Register → List ℕ → Register
enter r t =
    record { entered = suc r.entered; hull = but r.hull r.entered (record { sheet = sheet_of t; edits = 0 }) }

abbrev pub after_entry : State → List ℕ → State
after_entry s t = record { register = enter s.register t; draft = s.draft }

abbrev pub opens : Register → ℕ → Draft
opens r h = record { hull = h; opening = (r.hull h).edits; sheet = (r.hull h).sheet }

abbrev pub edited : Work → Draft → Draft
edited w x = record { hull = x.hull; opening = x.opening; sheet = work_done w x.sheet }

abbrev pub store : Register → Draft → Register
store r x =
    let h : Hull = record { sheet = x.sheet; edits = suc (r.hull x.hull).edits } in
    record { entered = r.entered; hull = but r.hull x.hull h }

abbrev pub after_save : State → ℕ → Draft → State
after_save s d x = record { register = store s.register x; draft = but s.draft d none }

-- the edit number of a draft's hull
abbrev pub edits_of : State → Draft → ℕ
edits_of s x = (s.register.hull x.hull).edits
