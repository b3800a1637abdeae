-- What the step of each accepted call makes of the memory, by the change that it is; and a refused writing leaves the
-- lent output.
use mathlib.Core.Path.{◌≡◌, refl}
use mathlib.Core.Bool.{true}
use mathlib.Core.List.{List}
use Prim.Native.Nat.{ℕ}
use Rattle.form.specs.Outcome.{right}
use Rattle.answers.specs.Values.{is_refusal}
use Rattle.sheet.specs.SheetText.{read_sheet}
use Rattle.memory.specs.Layout.{draft_sheet}
use Rattle.memory.specs.Updates.{entered, opened, fitted, replaced, dropped, saved}
use Rattle.register.specs.Refusals.{room_refusal, open_refusal, desk_refusal, set_own, save_own, sheet_of}
use Rattle.register.specs.Refusals.{on_text}
use Rattle.register.specs.Calls.{set_fitting, replace, write, new_hull, open_hull, work, save, drop_draft, ask}
use Rattle.register.specs.Calls.{step}
use Rattle.register.proofs.Effects.{refused_leaves}

module _ (m : List ℕ) (d : ℕ) (z : desk_refusal m d ≡ 0) where
  pub set_makes : (line w c : ℕ)
      → set_own (draft_sheet m d) line w c ≡ 0
      → (step m (work d (set_fitting line w c))).memory ≡ fitted m d line w c
  set_makes line w c y = rw (z, y) refl

  pub replace_makes : (t s : List ℕ)
      → read_sheet t ≡ right s
      → (step m (work d (replace t))).memory ≡ replaced m d (sheet_of t)
  replace_makes t s e = rw (z, e, on_text) refl

  pub save_makes : save_own m d ≡ 0 → (step m (save d)).memory ≡ saved m d
  save_makes y = rw (z, y) refl

  pub drop_makes : (step m (drop_draft d)).memory ≡ dropped m d
  drop_makes = rw z refl

pub open_makes : (m : List ℕ) (d h : ℕ) → open_refusal m d h ≡ 0 → (step m (open_hull d h)).memory ≡ opened m d h
open_makes m d h z = rw z refl

pub new_makes : (m t s : List ℕ)
    → room_refusal m ≡ 0
    → read_sheet t ≡ right s
    → (step m (new_hull t)).memory ≡ entered m (sheet_of t)
new_makes m t s z e = rw (z, e, on_text) refl

pub written_kept : (m : List ℕ) (h : ℕ) (out : List ℕ)
    → is_refusal (step m (ask h (write out))).answer ≡ true
    → (step m (ask h (write out))).output ≡ out
written_kept m h out e = (refused_leaves m (ask h (write out)) e).output_kept
