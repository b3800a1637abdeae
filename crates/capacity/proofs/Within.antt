-- What a sheet within the limits keeps to: the most that each word may be. Each law takes the sheet and that it is
-- within the limits, so that `omega` finds both by itself where it is handed the law's name.
use mathlib.Core.Path.{◌≡◌, refl, sym, ◌∙◌}
use mathlib.Core.Bool.{true}
use mathlib.Core.List.{List, [], ◌∷◌}
use Prim.Native.Nat.{ℕ, ◌+◌, ◌≤◌, ◌<◌}
use native.Mathlib.Omega.{arith}
use lib.Dec.{lit<}
use lib.ListN.{get_or, take, drop}
use lib.Seq.{get_or-take, get_or-drop, length-take-le}
use Rattle.text.specs.Limit.{all_hold}
use Rattle.ground.proofs.Booleans.{both_hold}
use Rattle.sheet.specs.Lines.{lines, fittings, fitting_high}
use Rattle.sheet.specs.Sheet.{limits_on, fits_ok, words_ok}
use Rattle.sheet.specs.Places.{length_at, reference_at, transom_width_at, readings, station_at, aft_at, well_at}
use Rattle.sheet.specs.Places.{flooding_at}
use Rattle.sheet.specs.Places.{bare_at, fuel_at, machinery_at, positions_at, fittings_at}
use Rattle.sheet.proofs.Words.{words_length, words_run}
use Rattle.capacity.specs.Words.{hull_length, reference, transom_width, station, aft, well, flooding, bare, fuel}
use Rattle.capacity.specs.Words.{machinery}
use Rattle.capacity.specs.Words.{positions, fittings_of}
use Rattle.capacity.specs.Highs.{highs, high_at, Readings, Stations, Fittings}
use Rattle.capacity.specs.Weights.{line_weight}
use Rattle.capacity.proofs.Ends.{at_least, run_most}
use Rattle.capacity.proofs.Weights.{fits_light, line_most_lem}

module _ (s : List ℕ) (ok : words_ok s ≡ true) where
  run : (all_hold (limits_on (drop 1 lines)) 0 (take fittings_at s) ≡ true) × (fits_ok fittings (fittings_of s) ≡ true)
  run =
      both_hold (all_hold (limits_on (drop 1 lines)) 0 (take fittings_at s)) (fits_ok fittings (fittings_of s))
      (sym (words_run s (words_length s ok)) ∙ ok)

  pub word_most_lem : (place : ℕ) → place < fittings_at → get_or s place 0 ≤ high_at place
  word_most_lem = run_most s run.0

  -- a boat weighs something
  pub bare_least : 1 ≤ bare s
  unfolding limits_on
  bare_least =
      let n = words_length s ok in
      rw (get_or-take fittings_at s bare_at 0 (lit< tt)) at
      (at_least (limits_on (drop 1 lines)) 0 (take fittings_at s) run.0 bare_at
      (omega (arith, length-take-le fittings_at s (omega arith))))

  -- ---- by name

  pub long_most : hull_length s ≤ high_at length_at
  long_most = word_most_lem _ (omega arith)

  pub reference_most : reference s ≤ high_at reference_at
  reference_most = word_most_lem _ (omega arith)

  pub wide_most : transom_width s ≤ high_at transom_width_at
  wide_most = word_most_lem _ (omega arith)

  pub aft_most : aft s ≤ high_at aft_at
  aft_most = word_most_lem _ (omega arith)

  pub well_most : well s ≤ high_at well_at
  well_most = word_most_lem _ (omega arith)

  pub flooding_most : flooding s ≤ high_at flooding_at
  flooding_most = word_most_lem _ (omega arith)

  pub bare_most : bare s ≤ high_at bare_at
  bare_most = word_most_lem _ (omega arith)

  pub fuel_most : fuel s ≤ high_at fuel_at
  fuel_most = word_most_lem _ (omega arith)

  pub machinery_most : machinery s ≤ high_at machinery_at
  machinery_most = word_most_lem _ (omega arith)

  pub positions_most : positions s ≤ high_at positions_at
  positions_most = word_most_lem _ (omega arith)

  -- ---- the fittings

  pub fittings_within : Fittings (fittings_of s)
  fittings_within = fits_light (fittings_of s) run.1

  pub line_within : (line : ℕ) → 1 ≤ line → line_weight s line ≤ fitting_high
  line_within = line_most_lem s fittings_within

  -- ---- the stations

  reading_most : (at : ℕ) {h : List ℕ} → at + readings ≤ fittings_at → take readings (drop at highs) ≡ h
      → (j : ℕ) → j < readings → get_or (take readings (drop at s)) j 0 ≤ get_or h j 0
  reading_most at n e j l = rw (← e, get_or-take, get_or-drop, get_or-take, get_or-drop) (word_most_lem (at + j) (omega arith))

  -- one whose limits are those of station Q
  alike_within : (at : ℕ) → at + readings ≤ fittings_at
      → take readings (drop at highs) ≡ take readings (drop (station_at 0) highs) → Readings (take readings (drop at s))
  alike_within at n e =
      let most = reading_most at n e in
      record {
        b = most 0 (omega arith);
        q = most 1 (omega arith);
        r = most 2 (omega arith);
        s = most 3 (omega arith);
        t = most 4 (omega arith);
        u = most 5 (omega arith);
        v = most 6 (omega arith);
      }

  -- all four, however the code came by them
  pub stations_within : {q r t u : List ℕ} → q ≡ station s 0 → r ≡ station s 1 → t ≡ station s 2 → u ≡ station s 3
      → Stations (q ∷ r ∷ t ∷ u ∷ []) (reference s)
  stations_within a b c d =
      let q = alike_within (station_at 0) (omega arith) refl in
      let r = alike_within (station_at 1) (omega arith) refl in
      let s = alike_within (station_at 2) (omega arith) refl in
      let t = alike_within (station_at 3) (omega arith) refl in
      record {
        at0 = rw a (search);
        at1 = rw b (search);
        at2 = rw c (search);
        at3 = rw d (search);
        reference_most = reference_most;
      }
