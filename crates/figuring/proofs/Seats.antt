-- Persons by what the code has found of a live load, where there are any.
use mathlib.Core.Path.{◌≡◌, refl, sym, ◌∙◌}
use mathlib.Core.Bool.{Bool, true, false}
use mathlib.Core.List.{List}
use Prim.Native.Nat.{ℕ, ◌≤◌, min}
use native.Mathlib.Omega.{arith}
use lib.Dec.{eqb, lit<}
use lib.IntN.{ℤ}
use lib.ListN.{take, drop}
use lib.Seq.{get_or-take, length-take-le}
use borrow.Author.Tests.{ne_eqb}
use Rattle.std.proofs.Common.{Option, Some, None}
use Rattle.text.specs.Limit.{all_hold}
use Rattle.ground.proofs.Booleans.{both_hold}
use Rattle.sheet.specs.Lines.{lines, fittings}
use Rattle.sheet.specs.Places.{positions_at, fittings_at}
use Rattle.sheet.specs.Sheet.{limits_on, fits_ok, words_ok}
use Rattle.sheet.proofs.Words.{words_length, words_run}
use Rattle.capacity.specs.Whole.{floor_div, or_zero}
use Rattle.capacity.specs.Words.{positions, tested, fittings_of}
use Rattle.capacity.specs.PlateC.{person_grams, persons}
use Rattle.capacity.proofs.Ends.{at_least}
use Rattle.capacity.proofs.Persons.{persons_untested, persons_tested}
use Rattle.figuring.specs.Positive.{positive}
use Rattle.figuring.proofs.Positive.{any_none, any_some, none_any, some_any}

-- a sheet within the limits has at least one position
positions_least : (s : List ℕ) → words_ok s ≡ true → 1 ≤ positions s
unfolding limits_on
positions_least s ok =
    let n = words_length s ok in
    let run =
    both_hold (all_hold (limits_on (drop 1 lines)) 0 (take fittings_at s)) (fits_ok fittings (fittings_of s))
    (sym (words_run s n) ∙ ok) in
    rw (get_or-take fittings_at s positions_at 0 (lit< tt)) at
    (at_least (limits_on (drop 1 lines)) 0 (take fittings_at s) run.0 positions_at
    (omega (arith, length-take-le fittings_at s (omega arith))))

module _ (s : List ℕ) (ok : words_ok s ≡ true) (live : ℤ) {by_load : Option ℕ}
    (e : by_load ≡ positive (floor_div live person_grams)) where
  pub seats_none : by_load ≡ None → None ≡ positive (persons s live)
  seats_none z = none_any (go (eqb (tested s) 0) refl)
    where
      none : or_zero (floor_div live person_grams) ≡ 0
      none = any_none _ (sym e ∙ z)

      go : (t : Bool) → eqb (tested s) 0 ≡ t → or_zero (persons s live) ≡ 0
      go true f = omega (arith, none, persons_untested s live f)
      go false f = omega (arith, none, persons_tested s live f)

  module _ {n : ℕ} (z : by_load ≡ Some n) where
    found : (n ≡ or_zero (floor_div live person_grams)) × (1 ≤ or_zero (floor_div live person_grams))
    found = any_some _ (sym e ∙ z)

    pub seats_untested : tested s ≡ 0 → Some (min n (positions s)) ≡ positive (persons s live)
    seats_untested t =
        some_any (omega (arith, found.0, persons_untested s live (rw t refl)))
        (omega (arith, found.0, found.1, positions_least s ok))

    pub seats_tested : (tested s ≡ 0 → ⊥) → Some (min (min n (positions s)) (tested s)) ≡ positive (persons s live)
    seats_tested t =
        some_any (omega (arith, found.0, persons_tested s live (ne_eqb _ _ t)))
        (omega (arith, found.0, found.1, t, positions_least s ok))
