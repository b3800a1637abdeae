-- Every call keeps a well-formed memory well formed, and fresh start makes one.
use mathlib.Core.Path.{◌≡◌, refl}
use mathlib.Core.Bool.{Bool, true, false, cond}
use mathlib.Core.List.{List}
use Prim.Native.Nat.{ℕ}
use native.Mathlib.Omega.{arith}
use borrow.Author.Tests.{eqb-true}
use lib.Dec.{eqb}
use lib.ListN.{length}
use Rattle.form.specs.Outcome.{Verdict, right, wrong}
use Rattle.answers.specs.Answer.{Answer}
use Rattle.answers.specs.Answer.{Refused, RefusedAt, Done, Count, Plate}
use Rattle.sheet.specs.Sheet.{words_ok}
use Rattle.sheet.specs.SheetText.{read_sheet}
use Rattle.sheet.proofs.Words.{words_of}
use Rattle.sheet.proofs.SheetText.{reads_written}
use Rattle.memory.specs.Layout.{register_words, hull_count, draft_weight, draft_sheet}
use Rattle.memory.specs.Formed.{formed}
use Rattle.memory.proofs.Sound.{sound}
use Rattle.memory.proofs.Keeps.{fresh_formed, entered_formed, opened_formed, fitted_formed, replaced_formed}
use Rattle.memory.proofs.Keeps.{dropped_formed, saved_formed}
use Rattle.register.specs.Refusals.{set_own, save_own, or_refused, leaves, sheet_of, on_text}
use Rattle.register.specs.Calls.{Work, set_fitting, replace, try_plate, Call, new_hull, open_hull, work, save}
use Rattle.register.specs.Calls.{drop_draft, ask}
use Rattle.register.specs.Calls.{work_answer, work_makes, shared, own, makes, fresh_step, step}
use Rattle.register.proofs.Refusals.{DeskGoes, desk_goes, room_goes, open_goes}
use Rattle.register.proofs.Own.{set_fits, save_unspent}

-- ---- a memory that is kept, or changed into another well-formed one

kept_or_made : (a : Answer) (x m : List ℕ) → formed m ≡ true → formed x ≡ true → formed (leaves a x m) ≡ true
kept_or_made (Refused n) x m ok f = ok
kept_or_made (RefusedAt n line byte) x m ok f = ok
kept_or_made Done x m ok f = f
kept_or_made (Count n) x m ok f = f
kept_or_made (Plate a b) x m ok f = f

past_refusal : (refusal : ℕ) (a : Answer) (x m : List ℕ)
    → formed m ≡ true
    → (refusal ≡ 0 → formed (leaves a x m) ≡ true)
    → formed (leaves (or_refused refusal a) x m) ≡ true
past_refusal refusal a x m ok f = go (eqb refusal 0) refl
  where
    go : (t : Bool) → eqb refusal 0 ≡ t → formed (leaves (cond t a (Refused refusal)) x m) ≡ true
    go true e = f (eqb-true refusal 0 e)
    go false e = ok

-- the sheet of a text that is read is within the limits
pub text_words_lem : (t s : List ℕ) → read_sheet t ≡ right s → words_ok (sheet_of t) ≡ true
text_words_lem t s e = rw (e, sheet_of) (words_of s (reads_written t s e).within)

past_text : (t : List ℕ) (a : Answer) (x m : List ℕ)
    → formed m ≡ true
    → (words_ok (sheet_of t) ≡ true → formed (leaves a x m) ≡ true)
    → formed (leaves (on_text t a) x m) ≡ true
past_text t a x m ok f = go (read_sheet t) refl
  where
    go : (r : Verdict (List ℕ)) → read_sheet t ≡ r → formed (leaves (on_text t a) x m) ≡ true
    go (right s) e = let k = text_words_lem t s e in rw (e, on_text) (f k)
    go (wrong number line byte) e = rw (e, on_text) ok

-- ---- the calls

work_keeps : (m : List ℕ) (d : ℕ) (w : Work)
    → formed m ≡ true
    → DeskGoes m d
    → formed (leaves (work_answer w (draft_weight m d) (draft_sheet m d)) (work_makes m d w) m) ≡ true
work_keeps m d (set_fitting line w c) ok g =
    past_refusal (set_own (draft_sheet m d) line w c) Done _ m ok
    (λ y.
    let p = set_fits (draft_sheet m d) line w c y in
    fitted_formed m d line w c ok g.desk g.some p.low p.high p.fits)
work_keeps m d (replace t) ok g = past_text t Done _ m ok (replaced_formed m d (sheet_of t) ok g.desk g.some)
work_keeps m d (try_plate k) ok g =
    kept_or_made (work_answer (try_plate k) (draft_weight m d) (draft_sheet m d)) m m ok ok

own_keeps : (m : List ℕ) (c : Call) → formed m ≡ true → shared m c ≡ 0 → formed (leaves (own m c) (makes m c) m) ≡ true
own_keeps m (new_hull t) ok z =
    past_text t (Count (hull_count m)) _ m ok (entered_formed m (sheet_of t) ok (room_goes m z).room)
own_keeps m (open_hull d h) ok z = let g = open_goes m d h z in opened_formed m d h ok g.desk g.entered
own_keeps m (work d w) ok z = work_keeps m d w ok (desk_goes m d z)
own_keeps m (save d) ok z =
    let g = desk_goes m d z in
    let l = ((sound m ok).hulls _ g.draft.entered).number in
    past_refusal (save_own m d) _ _ m ok
    (λ y. saved_formed m d ok g.desk g.some (omega (arith, save_unspent m d y, l)))
own_keeps m (drop_draft d) ok z = dropped_formed m d ok (desk_goes m d z).desk
own_keeps m (ask h q) ok z = kept_or_made (own m (ask h q)) m m ok ok

-- A well-formed memory stays well formed, whatever is called.
pub keeps_formed : (m : List ℕ) (c : Call) → formed m ≡ true → formed (step m c).memory ≡ true
keeps_formed m c ok = past_refusal (shared m c) (own m c) (makes m c) m ok (own_keeps m c ok)

pub fresh_forms : (m : List ℕ) → length m ≡ register_words → formed (fresh_step m).memory ≡ true
fresh_forms m e = rw e fresh_formed
