-- A sheet's HULL number and the words after it.
use mathlib.Core.Path.{◌≡◌, refl}
use mathlib.Core.Bool.{◌&&◌}
use mathlib.Core.List.{List}
use Prim.Native.Nat.{ℕ, ◌-◌}
use lib.ListN.{length, take, drop}
use Rattle.text.specs.Limit.{all_hold}
use Rattle.ground.proofs.Stores.{rest_part}
use Rattle.sheet.specs.declared.TheConstants.{LIMITS}
use Rattle.sheet.specs.Sheet.{limits_on, limit_rows, ok_on, sheet_ok, words_ok}

module _ (s : List ℕ) where
  pub parted : sheet_ok s
      ≡ (all_hold (take 1 LIMITS) 0 (take 1 s) && words_ok (take (length s - 1) (drop 1 s)))
  unfolding limit_rows limits_on ok_on
  parted = rw (rest_part s 1) refl
