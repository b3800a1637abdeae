-- A sheet's words without its HULL number: they are within the limits where the sheet is, and the other way round; how
-- many there are.
use mathlib.Core.Path.{◌≡◌, refl}
use mathlib.Core.Bool.{true, ◌&&◌}
use mathlib.Core.List.{List, [], ◌∷◌}
use Prim.Native.Nat.{ℕ, ◌≤◌}
use native.Mathlib.Omega.{arith}
use lib.ListN.{length, take, drop}
use Rattle.text.specs.Limit.{ranging, all_hold}
use Rattle.ground.proofs.Booleans.{both_hold}
use Rattle.text.proofs.Limits.{full}
use Rattle.text.proofs.Bounds.{between_ranging}
use Rattle.sheet.specs.Lines.{lines, fittings}
use Rattle.sheet.specs.Places.{fittings_at, sheet_words}
use Rattle.sheet.specs.Sheet.{limits_on, fits_ok, ok_on, sheet_ok, words_ok}
use Rattle.sheet.proofs.Held.{opens, lines_open, ok_run}
use Rattle.sheet.proofs.Full.{lines_full, ok_length}

pub words_of : (s : List ℕ) → sheet_ok s ≡ true → words_ok (drop 1 s) ≡ true
unfolding ok_on
words_of s h = (both_hold (all_hold (ranging 0 15 ∷ []) 0 (take 1 s)) (words_ok (drop 1 s)) h).1

-- and the words with a HULL number before them are a sheet within the limits
pub numbered : (n : ℕ) (s : List ℕ) → n ≤ 15 → words_ok s ≡ true → sheet_ok (n ∷ s) ≡ true
unfolding ok_on all_hold
numbered n s l h = rw (between_ranging 0 15 0 n (omega arith) l) h

pub words_length : (s : List ℕ) → words_ok s ≡ true → length s ≡ sheet_words
unfolding limits_on lines_full full
words_length s h = ok_length (drop 1 lines) s refl h

-- those before the fittings in one run, and then the fittings
pub words_run : (s : List ℕ) → length s ≡ sheet_words
    → words_ok s
    ≡ (all_hold (limits_on (drop 1 lines)) 0 (take fittings_at s) && fits_ok fittings (drop fittings_at s))
unfolding limits_on lines_open opens
words_run s n = ok_run (drop 1 lines) s refl (omega arith)
