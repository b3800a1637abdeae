-- A refused call leaves every lent word and byte; an accepted one makes of the memory what its definition says, and of
-- that, slot by slot, what it changes and what it leaves.
use mathlib.Core.Path.{◌≡◌, refl, sym}
use mathlib.Core.Bool.{true, false, true≢false}
use mathlib.Core.List.{List, []}
use Prim.Native.Nat.{ℕ}
use native.Mathlib.Omega.{arith}
use borrow.Author.Tests.{ne_eqb}
use lib.ListN.{length}
use Rattle.ground.proofs.Booleans.{false_true}
use Rattle.form.specs.Outcome.{right}
use Rattle.answers.specs.Refusals.{bad_memory}
use Rattle.answers.specs.Answer.{Answer}
use Rattle.answers.specs.Answer.{Refused, RefusedAt, Done, Count, Plate}
use Rattle.answers.specs.Values.{is_refusal}
use Rattle.sheet.specs.SheetText.{read_sheet}
use Rattle.memory.specs.Layout.{register_words, draft_sheet}
use Rattle.memory.specs.Updates.{fresh_words}
use Rattle.memory.proofs.Sound.{sound}
use Rattle.sheet.proofs.Words.{words_length}
use Rattle.memory.proofs.DeskChanges.{OpenedChanges, opened_changes, FittedChanges, fitted_changes}
use Rattle.memory.proofs.DeskChanges.{ReplacedChanges, replaced_changes, DroppedChanges, dropped_changes}
use Rattle.memory.proofs.Changes.{EnteredChanges, entered_changes, SavedChanges, saved_changes}
use Rattle.memory.proofs.Fittings.{FittedWords, fitted_three}
use Rattle.register.specs.Refusals.{room_refusal, open_refusal, desk_refusal, set_own, leaves, sheet_of}
use Rattle.register.specs.Calls.{Call, Step, lent, makes, fills, fresh_step, step}
use Rattle.register.proofs.Refusals.{room_goes, open_goes, desk_goes}
use Rattle.register.proofs.Own.{set_fits}
use Rattle.register.proofs.Keeps.{text_words_lem}

-- ---- what an answer leaves

pub leaves_refused : {A : Type 0} (a : Answer) (x m : A) → is_refusal a ≡ true → leaves a x m ≡ m
leaves_refused (Refused n) x m e = refl
leaves_refused (RefusedAt n line byte) x m e = refl
leaves_refused Done x m e = false_true e
leaves_refused (Count n) x m e = false_true e
leaves_refused (Plate a b) x m e = false_true e

pub leaves_accepted : {A : Type 0} (a : Answer) (x m : A) → is_refusal a ≡ false → leaves a x m ≡ x
leaves_accepted (Refused n) x m e = absurd (true≢false e)
leaves_accepted (RefusedAt n line byte) x m e = absurd (true≢false e)
leaves_accepted Done x m e = refl
leaves_accepted (Count n) x m e = refl
leaves_accepted (Plate a b) x m e = refl

-- where a refusal makes m, what is made is left
pub leaves_made : {A : Type 0} (a : Answer) (x m : A) → (is_refusal a ≡ true → x ≡ m) → x ≡ leaves a x m
leaves_made (Refused n) x m f = f refl
leaves_made (RefusedAt n line byte) x m f = f refl
leaves_made Done x m f = refl
leaves_made (Count n) x m f = refl
leaves_made (Plate a b) x m f = refl

-- what is lent to be read is left
pub leaves_same : {A : Type 0} (a : Answer) (m : A) → leaves a m m ≡ m
leaves_same a m = sym (leaves_made a m m (λ e. refl))

-- ---- every call

-- the step left the memory m and the output as they stood
pub record Untouched (s : Step) (m out : List ℕ) : Type 0 where
  pub memory_kept : s.memory ≡ m
  pub output_kept : s.output ≡ out

pub refused_leaves : (m : List ℕ) (c : Call) → is_refusal (step m c).answer ≡ true → Untouched (step m c) m (lent c)
refused_leaves m c e =
    record {
      memory_kept = leaves_refused (step m c).answer (makes m c) m e;
      output_kept = leaves_refused (step m c).answer (fills m c) (lent c) e;
    }

pub fresh_leaves : (m : List ℕ) → is_refusal (fresh_step m).answer ≡ true → Untouched (fresh_step m) m []
fresh_leaves m e = record { memory_kept = leaves_refused (fresh_step m).answer fresh_words m e; output_kept = refl }

pub accepted_makes : (m : List ℕ) (c : Call) → is_refusal (step m c).answer ≡ false → (step m c).memory ≡ makes m c
accepted_makes m c e = leaves_accepted (step m c).answer (makes m c) m e

-- fresh start is refused for a wrong size, and for nothing else
pub fresh_wrong_size : (m : List ℕ) → (length m ≡ register_words → ⊥) → (fresh_step m).answer ≡ Refused bad_memory
fresh_wrong_size m n = rw (ne_eqb (length m) register_words n) refl

pub fresh_right_size : (m : List ℕ)
    → length m ≡ register_words
    → ((fresh_step m).answer ≡ Done) × ((fresh_step m).memory ≡ fresh_words)
fresh_right_size m e = (rw e refl, rw e refl)

-- ---- what is made, slot by slot, where nothing refuses the call

pub new_changes : (m t s : List ℕ)
    → room_refusal m ≡ 0
    → read_sheet t ≡ right s
    → EnteredChanges m (sheet_of t)
new_changes m t s z e =
    let g = room_goes m z in
    entered_changes m (sheet_of t) (sound m g.ok).size g.room (words_length (sheet_of t) (text_words_lem t s e))

pub open_changes : (m : List ℕ) (d h : ℕ) → open_refusal m d h ≡ 0 → OpenedChanges m d h
open_changes m d h z =
    let g = open_goes m d h z in
    let s = sound m g.ok in
    opened_changes m d h s.size g.desk (omega (arith, s.few, g.entered))

module _ (m : List ℕ) (d : ℕ) (z : desk_refusal m d ≡ 0) where
  pub set_changes : (line w c : ℕ) → set_own (draft_sheet m d) line w c ≡ 0 → FittedChanges m d line w c
  set_changes line w c y =
      let g = desk_goes m d z in
      let p = set_fits (draft_sheet m d) line w c y in
      fitted_changes m d line w c (sound m g.ok).size g.desk p.low p.high

  pub set_words : (line w c : ℕ) → set_own (draft_sheet m d) line w c ≡ 0 → FittedWords m d line w c
  set_words line w c y =
      let g = desk_goes m d z in
      let p = set_fits (draft_sheet m d) line w c y in
      fitted_three m d line w c (sound m g.ok).size g.desk p.low p.high

  pub replace_changes : (t s : List ℕ) → read_sheet t ≡ right s → ReplacedChanges m d (sheet_of t)
  replace_changes t s e =
      let g = desk_goes m d z in
      replaced_changes m d (sheet_of t) (sound m g.ok).size g.desk (words_length (sheet_of t) (text_words_lem t s e))

  pub save_changes : SavedChanges m d
  save_changes =
      let g = desk_goes m d z in
      let s = sound m g.ok in
      saved_changes m d s.size g.desk (omega (arith, s.few, g.draft.entered))

  pub drop_changes : DroppedChanges m d
  drop_changes = let g = desk_goes m d z in dropped_changes m d (sound m g.ok).size g.desk
