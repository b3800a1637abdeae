-- Places whose limits are alike, and those of the four stations.
use mathlib.Core.Path.{◌≡◌}
use mathlib.Core.Bool.{true, ◌&&◌}
use mathlib.Core.List.{List}
use Prim.Native.Nat.{ℕ, zero, suc, ◌+◌, ◌-◌, ◌<◌}
use native.Mathlib.Omega.{arith}
use borrow.Author.Rules.{rules}
use lib.ListN.{length, take, drop, get_or, replicate}
use Rattle.text.specs.declared.Limit.{Limit}
use Rattle.text.specs.Limit.{ranging, all_hold, from_zero}
use Rattle.sheet.specs.Sheet.{limits_on, limit_rows}
use Rattle.sheet.proofs.Held.{opens}
use Rattle.sheet.specs.Places.{length_at, readings, stations, station_at, aft_at, bare_at, fittings_at, sheet_words}
use Rattle.measuring.specs.Part.{word_rows, part_ok, AlikePart}
use Rattle.measuring.proofs.Parts.{rows_many, Parting, part_long, parts_join}

pub run_low : {rows : List Limit}
    → rows ≡ word_rows
    → {at end : ℕ}
    → AlikePart at end
    → from_zero (get_or rows at (ranging 0 0)) ≡ true
run_low e r = rw e r.low

pub run_judged : {rows : List Limit}
    → rows ≡ word_rows
    → (ws : List ℕ)
    → length ws ≡ sheet_words
    → {at end : ℕ}
    → AlikePart at end
    → all_hold (replicate (length (take (end - at) (drop at ws))) (get_or rows at (ranging 0 0))) 0
    (take (end - at) (drop at ws)) ≡ part_ok ws at end
unfolding part_ok
run_judged e ws n {at} {end} r =
    rw (e, part_long ws at end (omega arith) r.places, r.alike)

pub ruleset run_laws = (rows_many, run_low, run_judged)

-- ---- a station

pub record Station (at : ℕ) : Type 0 where
  pub b : AlikePart at (at + 1)
  pub others : AlikePart (at + 1) (at + readings)
  pub within : Parting at (at + 1) (at + readings)
  pub after : Parting at (at + readings) fittings_at

pub station : (k : ℕ) → k < stations → Station (station_at k)
unfolding limit_rows limits_on from_zero opens
station zero h = search rules
station (suc zero) h = search rules
station (suc (suc zero)) h = search rules
station (suc (suc (suc zero))) h = search rules
station (suc (suc (suc (suc k)))) h = absurd (omega arith)

module _ (ws : List ℕ) (n : length ws ≡ sheet_words) (k : ℕ) (h : k < stations) where
  pub station_parts : part_ok ws (station_at k) (station_at k + readings)
      ≡ (part_ok ws (station_at k) (station_at k + 1) && part_ok ws (station_at k + 1) (station_at k + readings))
  station_parts = parts_join (station k h).within ws n

  pub station_more : part_ok ws (station_at k) fittings_at
      ≡ (part_ok ws (station_at k) (station_at k + readings) && part_ok ws (station_at (k + 1)) fittings_at)
  station_more =
      let next : station_at k + readings ≡ station_at (k + 1) = omega arith in
      rw (← next) (parts_join (station k h).after ws n)

-- ---- the other lines

pub vol_run : AlikePart aft_at bare_at
unfolding limit_rows limits_on from_zero opens
vol_run = search rules

module _ (ws : List ℕ) (n : length ws ≡ sheet_words) where
  form_cut : Parting length_at (station_at 0) fittings_at
  unfolding limit_rows limits_on opens
  form_cut = search rules

  vol_cut : Parting aft_at bare_at fittings_at
  unfolding limit_rows limits_on opens
  vol_cut = search rules

  pub form_parts : part_ok ws length_at fittings_at
      ≡ (part_ok ws length_at (station_at 0) && part_ok ws (station_at 0) fittings_at)
  form_parts = parts_join form_cut ws n

  pub vol_parts : part_ok ws aft_at fittings_at ≡ (part_ok ws aft_at bare_at && part_ok ws bare_at fittings_at)
  vol_parts = parts_join vol_cut ws n
