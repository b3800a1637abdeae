-- 02 (v), which answers have a place. A new hull and replace, where nothing that calls share refuses them, tell of a
-- refused text the number, the line and the byte that the reader found, whichever they are. No call that takes no text
-- has a place in its answer, whatever the memory: the 3 of a fitting line that is set has none.
use mathlib.Core.Path.{◌≡◌, refl}
use mathlib.Core.Bool.{Bool, true, false, true≢false}
use mathlib.Core.List.{List, ◌∷◌}
use Prim.Native.Nat.{ℕ, ◌+◌, ◌<◌}
use native.Mathlib.Omega.{arith}
use lib.Dec.{eqb}
use lib.ListN.{length}
use Rattle.ground.proofs.Booleans.{either}
use Rattle.form.specs.Outcome.{right, wrong}
use Rattle.answers.specs.Answer.{Answer}
use Rattle.answers.specs.Answer.{RefusedAt, Done, Count}
use Rattle.answers.proofs.Outcomes.{Unplaced}
use Rattle.sheet.specs.SheetText.{read_sheet}
use Rattle.sheet.proofs.Places.{sheet_places, rooms_right}
use Rattle.sheet.proofs.Refused.{write_unplaced}
use Rattle.capacity.proofs.Answers.{plate_unplaced}
use Rattle.memory.specs.Layout.{hull_count, edit, hull_weight, hull_sheet, draft_hull, draft_weight, draft_sheet}
use Rattle.register.specs.Refusals.{fresh_refusal, set_own, save_own, or_refused, on_text}
use Rattle.register.specs.Calls.{set_fitting, replace, try_plate, plate, weigh, write}
use Rattle.register.specs.Calls.{Call, new_hull, open_hull, work, save, drop_draft, ask}
use Rattle.register.specs.Calls.{shared, own, fresh_step, step}

-- ---- a call that takes a text; what is found of any text is `sheet_places`

text_long : (t : List ℕ) → 4096 < length t → read_sheet t ≡ wrong 2 0 0
text_long t h = sheet_places.too_long t (omega (arith, rooms_right.0))

module _ (m t : List ℕ) (z : shared m (new_hull t) ≡ 0) where
  pub new_hull_told : (number line byte : ℕ) → read_sheet t ≡ wrong number line byte
      → (step m (new_hull t)).answer ≡ RefusedAt number line byte
  new_hull_told number line byte e = rw (z, e, on_text) refl

  pub new_hull_long : 4096 < length t → (step m (new_hull t)).answer ≡ RefusedAt 2 0 0
  new_hull_long h = new_hull_told 2 0 0 (text_long t h)

  pub new_hull_done : (s : List ℕ) → read_sheet t ≡ right s → (step m (new_hull t)).answer ≡ Count (hull_count m)
  new_hull_done s e = rw (z, e, on_text) refl

module _ (m : List ℕ) (d : ℕ) (t : List ℕ) (z : shared m (work d (replace t)) ≡ 0) where
  pub replace_told : (number line byte : ℕ) → read_sheet t ≡ wrong number line byte
      → (step m (work d (replace t))).answer ≡ RefusedAt number line byte
  replace_told number line byte e = rw (z, e, on_text) refl

  pub replace_long : 4096 < length t → (step m (work d (replace t))).answer ≡ RefusedAt 2 0 0
  replace_long h = replace_told 2 0 0 (text_long t h)

  pub replace_done : (s : List ℕ) → read_sheet t ≡ right s → (step m (work d (replace t))).answer ≡ Done
  replace_done s e = rw (z, e, on_text) refl

-- ---- a call that takes none

abbrev pub takes_text : Call → Bool
takes_text (new_hull t) = true
takes_text (open_hull d h) = false
takes_text (work d w) =
    elim w [ set_fitting line weight count ↦ false | replace t ↦ true | try_plate k ↦ false ]
takes_text (save d) = false
takes_text (drop_draft d) = false
takes_text (ask h q) = false

numbered_unplaced : (refusal : ℕ) (a : Answer) → Unplaced a → Unplaced (or_refused refusal a)
numbered_unplaced refusal a h = either Unplaced (eqb refusal 0) h refl

own_unplaced : (m : List ℕ) (c : Call) → takes_text c ≡ false → Unplaced (own m c)
own_unplaced m (new_hull t) n = absurd (true≢false n)
own_unplaced m (open_hull d h) n = refl
own_unplaced m (work d (set_fitting line weight count)) n =
    numbered_unplaced (set_own (draft_sheet m d) line weight count) Done refl
own_unplaced m (work d (replace t)) n = absurd (true≢false n)
own_unplaced m (work d (try_plate k)) n = plate_unplaced k (draft_weight m d) (draft_sheet m d)
own_unplaced m (save d) n = numbered_unplaced (save_own m d) (Count (edit m (draft_hull m d) + 1)) refl
own_unplaced m (drop_draft d) n = refl
own_unplaced m (ask h (plate k)) n = plate_unplaced k (hull_weight m h) (hull_sheet m h)
own_unplaced m (ask h weigh) n = refl
own_unplaced m (ask h (write out)) n = write_unplaced (h ∷ hull_sheet m h) (length out)

pub textless_unplaced : (m : List ℕ) (c : Call) → takes_text c ≡ false → Unplaced (step m c).answer
textless_unplaced m c n = numbered_unplaced (shared m c) (own m c) (own_unplaced m c n)

pub fresh_unplaced : (m : List ℕ) → Unplaced (fresh_step m).answer
fresh_unplaced m = numbered_unplaced (fresh_refusal m) Done refl
