-- 01, Refusal numbers: every call on the register refuses by a number of the list, first to last, and so never by 0.
use mathlib.Core.Path.{◌≡◌, refl}
use mathlib.Core.Bool.{Bool, true, false, ◌&&◌, cond}
use mathlib.Core.List.{List, ◌∷◌}
use Prim.Native.Nat.{ℕ, ◌+◌}
use native.Mathlib.Omega.{arith}
use borrow.Author.Tests.{eqb-false, le-leb}
use lib.Dec.{eqb, leb, ltb}
use lib.ListN.{get_or, length}
use Rattle.form.specs.Outcome.{Verdict, right, wrong}
use Rattle.ground.proofs.Booleans.{either}
use Rattle.answers.specs.Refusals.{bad_memory, empty_line}
use Rattle.answers.specs.Answer.{Answer}
use Rattle.answers.specs.Answer.{Refused, Done, Count}
use Rattle.answers.proofs.Outcomes.{OfList, text_listed}
use Rattle.sheet.specs.Sheet.{no_fitting}
use Rattle.sheet.specs.Places.{fitting_word}
use Rattle.sheet.specs.SheetText.{read_sheet}
use Rattle.sheet.proofs.SheetText.{sheet_fault}
use Rattle.sheet.proofs.Listed.{write_listed}
use Rattle.capacity.proofs.Answers.{plate_listed}
use Rattle.memory.specs.Layout.{most_hulls, desks, register_words, hull_count, edit, hull_sheet, held, draft_hull, opening}
use Rattle.memory.specs.Layout.{hull_weight, draft_weight, draft_sheet}
use Rattle.memory.specs.Formed.{most_edits, formed}
use Rattle.register.specs.Refusals.{fresh_refusal, room_refusal, hull_refusal, open_refusal, desk_refusal, set_own}
use Rattle.register.specs.Refusals.{save_own}
use Rattle.register.specs.Refusals.{or_refused, on_text}
use Rattle.register.specs.Calls.{Work, set_fitting, replace, try_plate, Ask, plate, weigh, write}
use Rattle.register.specs.Calls.{Call, new_hull, open_hull, work, save, drop_draft, ask, work_answer, ask_answer}
use Rattle.register.specs.Calls.{shared, own, fresh_step, step}
use Rattle.register.proofs.Own.{within}

-- a refusal's number: of the list, or 0 for none
abbrev OrNone : ℕ → Type 0
OrNone refusal = leb refusal empty_line ≡ true

by_refusal : (refusal : ℕ) (a : Answer) → OrNone refusal → OfList a → OfList (or_refused refusal a)
by_refusal refusal a h k = go (eqb refusal 0) refl
  where
    go : (u : Bool) → eqb refusal 0 ≡ u → OfList (cond u a (Refused refusal))
    go true e = k
    go false e = let n = eqb-false refusal 0 e in rw (le-leb bad_memory refusal (omega arith), h) refl

by_text : (t : List ℕ) (a : Answer) → OfList a → OfList (on_text t a)
by_text t a h = go (read_sheet t) refl
  where
    go : (r : Verdict (List ℕ)) → read_sheet t ≡ r → OfList (on_text t a)
    go (right s) e = rw (e, on_text) h
    go (wrong number line byte) e = rw (e, on_text) (text_listed line byte (sheet_fault t number line byte e))

-- ---- what calls share

desk_listed : (m : List ℕ) (d : ℕ) → OrNone (desk_refusal m d)
unfolding desk_refusal
desk_listed m d =
    either OrNone (formed m) (either OrNone (ltb d desks) (either OrNone (eqb (held m d) 0) refl refl) refl) refl

shared_listed : (m : List ℕ) (c : Call) → OrNone (shared m c)
unfolding room_refusal hull_refusal open_refusal
shared_listed m (new_hull t) = either OrNone (formed m) (either OrNone (ltb (hull_count m) most_hulls) refl refl) refl
shared_listed m (open_hull d h) =
    either OrNone (formed m) (either OrNone (ltb d desks) (either OrNone (ltb h (hull_count m)) refl refl) refl) refl
shared_listed m (work d w) = desk_listed m d
shared_listed m (save d) = desk_listed m d
shared_listed m (drop_draft d) = desk_listed m d
shared_listed m (ask h q) = either OrNone (formed m) (either OrNone (ltb h (hull_count m)) refl refl) refl

-- ---- what only one call asks

set_listed : (s : List ℕ) (line w c : ℕ) → OrNone (set_own s line w c)
set_listed s line w c =
    either OrNone (within line w c)
    (either OrNone (no_fitting w c && eqb (get_or s (fitting_word line) 0) 0) refl refl) refl

save_listed : (m : List ℕ) (d : ℕ) → OrNone (save_own m d)
save_listed m d =
    let e = edit m (draft_hull m d) in
    either OrNone (eqb e (opening m d)) (either OrNone (eqb e most_edits) refl refl) refl

work_listed : (w : Work) (v : ℕ) (s : List ℕ) → OfList (work_answer w v s)
work_listed (set_fitting line w c) v s = by_refusal (set_own s line w c) Done (set_listed s line w c) refl
work_listed (replace t) v s = by_text t Done refl
work_listed (try_plate k) v s = plate_listed k v s

ask_listed : (h : ℕ) (q : Ask) (v : ℕ) (s : List ℕ) → OfList (ask_answer h q v s)
ask_listed h (plate k) v s = plate_listed k v s
ask_listed h weigh v s = refl
ask_listed h (write out) v s = write_listed (h ∷ s) (length out)

own_listed : (m : List ℕ) (c : Call) → OfList (own m c)
own_listed m (new_hull t) = by_text t (Count (hull_count m)) refl
own_listed m (open_hull d h) = refl
own_listed m (work d w) = work_listed w (draft_weight m d) (draft_sheet m d)
own_listed m (save d) = by_refusal (save_own m d) (Count (edit m (draft_hull m d) + 1)) (save_listed m d) refl
own_listed m (drop_draft d) = refl
own_listed m (ask h q) = ask_listed h q (hull_weight m h) (hull_sheet m h)

-- ---- every call

pub step_listed : (m : List ℕ) (c : Call) → OfList (step m c).answer
step_listed m c = by_refusal (shared m c) (own m c) (shared_listed m c) (own_listed m c)

pub fresh_listed : (m : List ℕ) → OfList (fresh_step m).answer
fresh_listed m = by_refusal (fresh_refusal m) Done (either OrNone (eqb (length m) register_words) refl refl) refl
