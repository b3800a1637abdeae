-- What each change of a desk's slot alone makes of it, and what it leaves.
use mathlib.Core.Path.{◌≡◌, ◌∙◌}
use mathlib.Core.List.{List, [], ◌∷◌}
use Prim.Native.Nat.{ℕ, ◌+◌, ◌≤◌, ◌<◌}
use native.Mathlib.Omega.{arith}
use lib.ListN.{length}
use lib.Seq.{sets}
use Rattle.sheet.specs.Places.{sheet_words, fitting_word}
use Rattle.sheet.specs.Lines.{fittings}
use Rattle.capacity.specs.Weights.{boat_m}
use Rattle.memory.specs.Layout.{most_hulls, desks, Sized, draft_front, draft_slot}
use Rattle.memory.specs.Layout.{draft_at, held_at, draft_weight_at, draft_sheet_at, fitting_at}
use Rattle.memory.specs.Layout.{edit, hull_weight, hull_sheet, held, draft_hull, opening, draft_weight, draft_sheet}
use Rattle.memory.specs.Updates.{opened, moved, fitted, replaced, dropped}
use Rattle.memory.proofs.Parts.{word_inside, word_first, part_after, part_sets}
use Rattle.memory.proofs.Slots.{hull_long, leaves, leaves_both, kept_part}
use Rattle.memory.proofs.OneSlot.{ButDesk, but_desk, SheetChanges, sheet_changes}

pub record OpenedChanges (m : List ℕ) (d h : ℕ) : Type 0 where
  pub rest : ButDesk (opened m d h) m d
  pub holds : held (opened m d h) d ≡ 1
  pub hull : draft_hull (opened m d h) d ≡ h
  pub number : opening (opened m d h) d ≡ edit m h
  pub weight : draft_weight (opened m d h) d ≡ hull_weight m h
  pub sheet : draft_sheet (opened m d h) d ≡ hull_sheet m h

abbrev pub FittedChanges : List ℕ → ℕ → ℕ → ℕ → ℕ → Type 0
FittedChanges m d line w c =
    SheetChanges (fitted m d line w c) m d (moved m d line w c) (sets (draft_sheet m d) (fitting_word line) (w ∷ c ∷ []))

abbrev pub ReplacedChanges : List ℕ → ℕ → List ℕ → Type 0
ReplacedChanges m d s = SheetChanges (replaced m d s) m d (boat_m s) s

pub record DroppedChanges (m : List ℕ) (d : ℕ) : Type 0 where
  pub rest : ButDesk (dropped m d) m d
  pub holds : held (dropped m d) d ≡ 0

module _ (m : List ℕ) (d : ℕ) where
  pub opened_changes : (h : ℕ) → Sized m → d < desks → h < most_hulls → OpenedChanges m d h
  unfolding opened
  opened_changes h k l j =
      let s : List ℕ = hull_sheet m h in
      let n : length s ≡ sheet_words = hull_long m h k j in
      let xs : List ℕ = draft_slot h (edit m h) (hull_weight m h) s in
      let fits : draft_at d + length xs ≤ length m = omega arith in
      record {
        rest = but_desk (leaves m (draft_at d) xs k) d l (λ j f x y. f (omega arith) (omega arith));
        holds = word_inside m (draft_at d) xs 0 (omega arith) fits (omega arith);
        hull = word_inside m (draft_at d) xs 1 (omega arith) fits (omega arith);
        number = word_inside m (draft_at d) xs 2 (omega arith) fits (omega arith);
        weight = word_inside m (draft_at d) xs 3 (omega arith) fits (omega arith);
        sheet = part_after m (draft_at d) (draft_front h (edit m h) (hull_weight m h)) s (draft_sheet_at d) (omega arith) n
            (omega arith);
      }

  pub fitted_changes : (line w c : ℕ) → Sized m → d < desks → 1 ≤ line → line ≤ fittings → FittedChanges m d line w c
  unfolding fitted
  fitted_changes line w c h l a b =
      let xs : List ℕ = w ∷ c ∷ [] in
      let v : ℕ = moved m d line w c in
      let o : List ℕ = sets m (fitting_at d line) xs in
      let one = leaves m (fitting_at d line) xs h in
      let two = leaves o (draft_weight_at d) (v ∷ []) one.same_size in
      sheet_changes d (leaves_both two one) l
      (λ k f. (λ x y. f (omega arith) (omega arith), λ x y. f (omega arith) (omega arith)))
      (word_first o (draft_weight_at d) v [] (omega (arith, one.same_size)))
      (kept_part two (draft_sheet_at d) (omega arith) (λ k x y u e. omega arith)
      ∙ part_sets m (draft_sheet_at d) sheet_words (fitting_word line) xs (omega arith))

  pub replaced_changes : (s : List ℕ) → Sized m → d < desks → length s ≡ sheet_words → ReplacedChanges m d s
  unfolding replaced
  replaced_changes s h l e =
      let xs : List ℕ = boat_m s ∷ s in
      sheet_changes d (leaves m (draft_weight_at d) xs h) l (λ k f x y. f (omega arith) (omega arith))
      (word_first m (draft_weight_at d) (boat_m s) s (omega arith))
      (part_after m (draft_weight_at d) (boat_m s ∷ []) s (draft_sheet_at d) (omega arith) e (omega arith))

  pub dropped_changes : Sized m → d < desks → DroppedChanges m d
  unfolding dropped
  dropped_changes h l =
      record {
        rest = but_desk (leaves m (held_at d) (0 ∷ []) h) d l (λ j f x y. f (omega arith) (omega arith));
        holds = word_first m (held_at d) 0 [] (omega arith);
      }
