-- The lines HULL to SEAT leave no number out, so a sheet within the limits has all its numbers.
use mathlib.Core.Path.{◌≡◌, refl}
use mathlib.Core.Bool.{Bool, true, ◌&&◌}
use mathlib.Core.List.{List, [], ◌∷◌}
use Prim.Native.Nat.{ℕ, ◌+◌, ◌*◌}
use native.Mathlib.Omega.{arith}
use lib.ListN.{length, take, drop, length-append, length-take, length-drop}
use Rattle.text.specs.Limit.{all_hold}
use Rattle.text.specs.Line.{Line}
use Rattle.ground.proofs.Booleans.{both_hold}
use Rattle.text.proofs.Limits.{full, hold_length}
use Rattle.sheet.specs.Lines.{lines, fittings}
use Rattle.sheet.specs.Sheet.{limits_on, ok_on}
use Rattle.sheet.proofs.Fits.{fits_length}

unfoldable pub lines_full : List Line → Bool
lines_full [] = true
lines_full (l ∷ ls) = full l.limits && lines_full ls

pub lines_full_lem : lines_full lines ≡ true
unfolding lines_full full
lines_full_lem = refl

pub ok_length : (ls : List Line) (s : List ℕ) → lines_full ls ≡ true → ok_on ls s ≡ true
    → length s ≡ length (limits_on ls) + 2 * fittings
unfolding ok_on limits_on lines_full
ok_length [] s f h = omega (arith, fits_length fittings s h)
ok_length (l ∷ ls) s f h =
    let n : ℕ = length l.limits in
    let fs = both_hold (full l.limits) (lines_full ls) f in
    let hs = both_hold (all_hold l.limits 0 (take n s)) (ok_on ls (drop n s)) h in
    let first = hold_length l.limits 0 (take n s) fs.0 hs.0 in
    let rest = ok_length ls (drop n s) fs.1 hs.1 in
    omega (arith, length-append l.limits (limits_on ls), length-take n s, length-drop n s)
