-- The most that each word of a sheet may be, as the one table of limits has it, and what the plates' inner functions
-- ask of a part of a sheet.
use Rattle.std.specs.Prelude.{ℕ, ◌+◌, ◌*◌, ◌≤◌, ◌<◌, ◌≡◌, true, List, [], ◌∷◌, ◌++◌, map, length, get_or, drop}
use Rattle.text.specs.declared.Limit.{Limit}
use Rattle.text.specs.Line.{Line}
use Rattle.sheet.specs.Lines.{lines, fittings, fitting_high}
use Rattle.sheet.specs.Sheet.{words_ok}
use Rattle.sheet.specs.Places.{reference_at, station_at, bare_at, fuel_at, machinery_at}
use Rattle.capacity.specs.Words.{aft}
use Rattle.capacity.specs.Volume.{volume_n, gram}
use Rattle.capacity.specs.PlateA.{factor_p, table_end}
use Rattle.capacity.specs.PlateU.{Figure}

abbrev highs_on : List Line → List ℕ
highs_on [] = []
highs_on (l ∷ ls) = map (λ (m : Limit). m.high) l.limits ++ highs_on ls

-- of the words before the fittings in their order, without the HULL number
abbrev pub highs : List ℕ
highs = drop 1 (highs_on lines)

abbrev pub high_at : ℕ → ℕ
high_at place = get_or highs place 0

-- what 32 bits hold, whatever the table says
abbrev pub word_most : ℕ
word_most = 4294967295

-- ---- stations, which are all alike

abbrev pub breadth_high : ℕ
breadth_high = high_at (station_at 0)

abbrev pub depth_high : ℕ
depth_high = high_at (1 + station_at 0)

pub record Readings (l : List ℕ) : Type 0 where
  pub b : get_or l 0 0 ≤ breadth_high
  pub q : get_or l 1 0 ≤ depth_high
  pub r : get_or l 2 0 ≤ depth_high
  pub s : get_or l 3 0 ≤ depth_high
  pub t : get_or l 4 0 ≤ depth_high
  pub u : get_or l 5 0 ≤ depth_high
  pub v : get_or l 6 0 ≤ depth_high

-- the four of them, and the reference length
pub record Stations (ls : List (List ℕ)) (ref : ℕ) : Type 0 where
  pub at0 : Readings (get_or ls 0 [])
  pub at1 : Readings (get_or ls 1 [])
  pub at2 : Readings (get_or ls 2 [])
  pub at3 : Readings (get_or ls 3 [])
  pub reference_most : ref ≤ high_at reference_at

-- ---- fittings

-- weight and count in turn
pub record Fittings (s : List ℕ) : Type 0 where
  pub many : length s ≡ 2 * fittings
  pub light : (k : ℕ) → get_or s (2 * k) 0 * get_or s (2 * k + 1) 0 ≤ fitting_high

-- ---- sums and products

-- the greatest M, with the bare boat and every fitting line at its most
abbrev pub boat_most : ℕ
boat_most = high_at bare_at + fittings * fitting_high

-- grams that no plate takes a boat to weigh more than: an inboard of plate A, with tanks and machinery at their most,
-- whatever weight of 32 bits is handed in for M
abbrev pub heaviest : ℕ
heaviest = word_most + 5 * (high_at fuel_at + high_at machinery_at)

-- a power factor above the table of plate A
pub record AboveTable (s : List ℕ) (p : ℕ) : Type 0 where
  pub within : words_ok s ≡ true
  pub factor : p ≡ factor_p s
  pub above : table_end < p

-- a figure of plate U, of a sheet and what adds to its load, as the code works it
pub record Figured (s : List ℕ) (gain : ℕ) (f : Figure) : Type 0 where
  pub gains : gain ≡ volume_n s + gram * aft s
  pub grams_most : f.less_grams ≤ heaviest
  pub times_most : f.times ≤ 3
  pub some_parts : 0 < f.out_of
  pub parts_most : f.out_of ≤ 10
