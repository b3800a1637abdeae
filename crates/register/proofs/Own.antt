-- The checks that are a call's own: set a fitting line, save.
use mathlib.Core.Path.{◌≡◌, refl, sym, ◌∙◌}
use mathlib.Core.Bool.{Bool, true, false, ◌&&◌}
use mathlib.Core.List.{List}
use Prim.Native.Nat.{ℕ, ◌≤◌, ◌<◌}
use native.Mathlib.Omega.{arith}
use borrow.Author.Tests.{eqb-false, leb-true, le-leb, lt-leb, eq-eqb, ne_eqb}
use lib.Dec.{eqb, leb}
use lib.ListN.{get_or}
use Rattle.ground.proofs.Booleans.{both_hold}
use Rattle.answers.specs.Refusals.{outside_limits, edited_since, edits_spent, empty_line}
use Rattle.sheet.specs.Lines.{fittings}
use Rattle.sheet.specs.Sheet.{fit_ok}
use Rattle.sheet.specs.Places.{sheet_words, fitting_word}
use Rattle.sheet.proofs.FitRow.{empty_count}
use Rattle.memory.specs.Layout.{draft_sheet_at, edit, draft_hull, opening, draft_sheet, fitting_at}
use Rattle.memory.specs.Formed.{most_edits}
use Rattle.memory.proofs.Parts.{part_word}
use Rattle.register.specs.Refusals.{set_own, save_own}
use Rattle.register.proofs.Refusals.{passes, passes_not}

-- ---- set a fitting line

-- its weight, on the draft's sheet and in the memory
pub line_word : (m : List ℕ) (d line : ℕ)
    → line ≤ fittings
    → get_or (draft_sheet m d) (fitting_word line) 0 ≡ get_or m (fitting_at d line) 0
line_word m d line j = part_word m (draft_sheet_at d) sheet_words (fitting_word line) (omega (arith, j))

-- that a line may be set so, as the check asks it and by its parts
module _ (line weight count : ℕ) where
  abbrev pub within : Bool
  within = leb 1 line && (leb line fittings && fit_ok weight count)

  pub record SetFits : Type 0 where
    pub low : 1 ≤ line
    pub high : line ≤ fittings
    pub fits : fit_ok weight count ≡ true

  pub within_fits : within ≡ true → SetFits
  within_fits h =
      let a = both_hold (leb 1 line) (leb line fittings && fit_ok weight count) h in
      let b = both_hold (leb line fittings) (fit_ok weight count) a.1 in
      record { low = leb-true 1 line a.0; high = leb-true line fittings b.0; fits = b.1 }

module _ (s : List ℕ) (line weight count : ℕ) where
  pub set_line_low : line < 1 → outside_limits ≡ set_own s line weight count
  set_line_low l = rw (lt-leb 1 line l) refl

  pub set_line_high : 1 ≤ line → fittings < line → outside_limits ≡ set_own s line weight count
  set_line_high k l = rw (le-leb 1 line k, lt-leb line fittings l) refl

  -- by what the code has found of weight and count, and of the line's weight
  module _ {ok : Bool} (k : 1 ≤ line) (j : line ≤ fittings) (told : ok ≡ fit_ok weight count) where
    pub set_outside : ok ≡ false → outside_limits ≡ set_own s line weight count
    set_outside e = rw (le-leb 1 line k, le-leb line fittings j, ← told, e) refl

    pub set_filled : ok ≡ true → (weight ≡ 0 → ⊥) → 0 ≡ set_own s line weight count
    set_filled e n = rw (le-leb 1 line k, le-leb line fittings j, ← told, e, ne_eqb weight 0 n) refl

    module _ {w : ℕ} (f : w ≡ get_or s (fitting_word line) 0) (e : ok ≡ true) (z : weight ≡ 0) where
      no_count : count ≡ 0
      no_count = empty_count count (rw z at (sym told ∙ e))

      pub set_empty : w ≡ 0 → empty_line ≡ set_own s line weight count
      set_empty q = rw (le-leb 1 line k, le-leb line fittings j, z, no_count, ← f, q) refl

      pub set_emptied : (w ≡ 0 → ⊥) → 0 ≡ set_own s line weight count
      set_emptied n = rw (le-leb 1 line k, le-leb line fittings j, z, no_count, ← f, ne_eqb w 0 n) refl

  pub set_fits : set_own s line weight count ≡ 0 → SetFits line weight count
  set_fits z = within_fits line weight count (passes (within line weight count) _ outside_limits refl z).0

-- ---- save

module _ (m : List ℕ) (d : ℕ) where
  module _ {e o : ℕ} (f : e ≡ edit m (draft_hull m d)) (g : o ≡ opening m d) where
    pub save_stale : (e ≡ o → ⊥) → edited_since ≡ save_own m d
    save_stale n = rw (sym f, sym g, ne_eqb e o n) refl

    pub save_spent : e ≡ o → e ≡ most_edits → edits_spent ≡ save_own m d
    save_spent q z = rw (sym f, sym g, eq-eqb e o q, eq-eqb e most_edits z) refl

    pub save_due : e ≡ o → (e ≡ most_edits → ⊥) → 0 ≡ save_own m d
    save_due q n = rw (sym f, sym g, eq-eqb e o q, ne_eqb e most_edits n) refl

  pub save_unspent : save_own m d ≡ 0 → edit m (draft_hull m d) ≡ most_edits → ⊥
  save_unspent z =
      let e = edit m (draft_hull m d) in
      let a = passes (eqb e (opening m d)) _ edited_since refl z in
      eqb-false e most_edits (passes_not (eqb e most_edits) _ edits_spent refl a.1).0
