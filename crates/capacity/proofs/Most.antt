-- The most that a sheet within the limits makes of the sums, by the table of limits: so they fit 64 bits, and what is
-- marked 32.
use mathlib.Core.Path.{◌≡◌, refl}
use mathlib.Core.Bool.{Bool, true, false}
use mathlib.Core.List.{List, [], ◌∷◌}
use Prim.Native.Nat.{ℕ, ◌+◌, ◌-◌, ◌*◌, ◌≤◌}
use native.Mathlib.Nat.{mul-le-mul, mul-div-le}
use native.Mathlib.Omega.{arith}
use borrow.Author.Tests.{ltb-true, ltb-false}
use lib.Dec.{eqb, ltb}
use lib.ListN.{get_or}
use Rattle.sheet.specs.Sheet.{words_ok}
use Rattle.sheet.specs.Places.{reference_at, aft_at, well_at, flooding_at}
use Rattle.capacity.specs.Whole.{or_zero}
use Rattle.capacity.specs.Words.{reference, station, outboard, declared}
use Rattle.capacity.specs.Volume.{stations_n, volume_n, gram}
use Rattle.capacity.specs.Weights.{boat_m}
use Rattle.capacity.specs.PlateC.{marked_c, low_power, marked_kilo}
use Rattle.capacity.specs.PlateA.{half_marked, marked_a}
use Rattle.capacity.specs.Highs.{high_at, word_most, Stations, boat_most, heaviest}
use Rattle.capacity.proofs.Volume.{product_most, product_most_lem}
use Rattle.capacity.proofs.Within.{aft_most, well_most, flooding_most, bare_most, fuel_most, machinery_most}
use Rattle.capacity.proofs.Within.{bare_least, fittings_within, stations_within}
use Rattle.capacity.proofs.Weights.{sum_most}
use Rattle.capacity.proofs.Loads.{gain, loss, vessel, inboard_vessel, whole_part}
use Rattle.capacity.proofs.Loads.{marked_high, marked_low, marked_outboard, marked_inboard}

-- ---- of parts

-- N of four stations and a reference length
abbrev pub volume_most : ℕ
volume_most = high_at reference_at * (11 * product_most)

pub stations_most : (ls : List (List ℕ)) (ref : ℕ) → Stations ls ref → stations_n ref ls ≤ volume_most
stations_most ls ref b =
    let q = product_most_lem (get_or ls 0 []) b.at0 in
    let r = product_most_lem (get_or ls 1 []) b.at1 in
    let t = product_most_lem (get_or ls 2 []) b.at2 in
    let u = product_most_lem (get_or ls 3 []) b.at3 in
    mul-le-mul {n₂ = high_at reference_at} {m₂ = 11 * product_most} b.reference_most (omega arith)

pub floor_most : (a b d : ℕ) → d * whole_part a b d ≤ a
floor_most a b d = go (ltb a b) refl
  where
    go : (t : Bool) → ltb a b ≡ t → d * whole_part a b d ≤ a
    go true e = rw e (omega arith)
    go false e = rw e (omega (arith, mul-div-le (a - b) d))

-- ---- of a sheet

abbrev pub gain_most : ℕ
gain_most = volume_most + gram * high_at aft_at

abbrev pub loss_most : ℕ
loss_most = gram * (high_at well_at + high_at flooding_at + heaviest)

module _ (s : List ℕ) (ok : words_ok s ≡ true) where
  volume_most_lem : volume_n s ≤ volume_most
  unfolding volume_n
  volume_most_lem =
      stations_most (station s 0 ∷ station s 1 ∷ station s 2 ∷ station s 3 ∷ []) (reference s)
      (stations_within s ok refl refl refl refl)

  pub gain_most_lem : gain s ≤ gain_most
  gain_most_lem = omega (arith, volume_most_lem, aft_most s ok)

  -- M, which is never 0
  pub boat_most_lem : boat_m s ≤ boat_most
  unfolding boat_m
  boat_most_lem = omega (arith, sum_most s (fittings_within s ok), bare_most s ok)

  pub boat_some : 1 ≤ boat_m s
  unfolding boat_m
  boat_some = omega (arith, bare_least s ok)

  -- by the greatest weight that can be handed in for it
  pub weight_most : inboard_vessel word_most s ≤ heaviest
  weight_most = omega (arith, fuel_most s ok, machinery_most s ok)

  pub loss_most_lem : {w : ℕ} → w ≤ heaviest → loss w s ≤ loss_most
  loss_most_lem h = omega (arith, well_most s ok, flooding_most s ok)

  pub lost_most : loss (inboard_vessel word_most s) s ≤ loss_most
  lost_most = loss_most_lem weight_most

  -- ---- a marked load fits 32 bits

  pub marked_most : (m : ℕ) → or_zero (marked_a m s) ≤ 20000
  marked_most m = go (eqb (outboard s) 1) refl
    where
      below : (w : ℕ) → marked_kilo * whole_part (gain s + half_marked) (loss w s) marked_kilo ≤ gain s + half_marked
      below w = floor_most (gain s + half_marked) (loss w s) marked_kilo

      go : (t : Bool) → eqb (outboard s) 1 ≡ t → or_zero (marked_a m s) ≤ 20000
      go true e = omega (arith, marked_outboard m s e, below (vessel m s), gain_most_lem)
      go false e = omega (arith, marked_inboard m s e, below (inboard_vessel m s), gain_most_lem)

  pub c_most : (m : ℕ) → or_zero (marked_c m s) ≤ 20000
  c_most m = go (ltb low_power (declared s)) refl
    where
      go : (t : Bool) → ltb low_power (declared s) ≡ t → or_zero (marked_c m s) ≤ 20000
      go true e =
          let below = floor_most (gain s) (loss (vessel m s) s) marked_kilo in
          omega (arith, marked_high m s (ltb-true low_power (declared s) e), gain_most_lem)
      go false e =
          let below = floor_most (3 * gain s) (3 * loss (vessel m s) s) (2 * marked_kilo) in
          omega (arith, marked_low m s (ltb-false low_power (declared s) e), gain_most_lem)
