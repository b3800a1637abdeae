-- 01, The sheet: the words of a sheet by their names, in the order of the text.
use Rattle.std.specs.Prelude.{ℕ, List, get_or, take, drop}
use Rattle.sheet.specs.Places.{length_at, reference_at, transom_width_at, transom_height_at, flat_bottom_at, remote_at}
use Rattle.sheet.specs.Places.{readings, station_at, aft_at, well_at, flooding_at, bare_at, fuel_at, machinery_at}
use Rattle.sheet.specs.Places.{outboard_at, declared_at, positions_at, tested_at, fittings_at}

-- FORM
abbrev pub hull_length : List ℕ → ℕ
hull_length s = get_or s length_at 0

abbrev pub reference : List ℕ → ℕ
reference s = get_or s reference_at 0

abbrev pub transom_width : List ℕ → ℕ
transom_width s = get_or s transom_width_at 0

abbrev pub transom_height : List ℕ → ℕ
transom_height s = get_or s transom_height_at 0

abbrev pub flat_bottom : List ℕ → ℕ
flat_bottom s = get_or s flat_bottom_at 0

abbrev pub remote : List ℕ → ℕ
remote s = get_or s remote_at 0

-- STN: the readings of station i, of Q R S T
abbrev pub station : List ℕ → ℕ → List ℕ
station s i = take readings (drop (station_at i) s)

-- VOL
abbrev pub aft : List ℕ → ℕ
aft s = get_or s aft_at 0

abbrev pub well : List ℕ → ℕ
well s = get_or s well_at 0

abbrev pub flooding : List ℕ → ℕ
flooding s = get_or s flooding_at 0

-- MASS
abbrev pub bare : List ℕ → ℕ
bare s = get_or s bare_at 0

abbrev pub fuel : List ℕ → ℕ
fuel s = get_or s fuel_at 0

abbrev pub machinery : List ℕ → ℕ
machinery s = get_or s machinery_at 0

-- PWR
abbrev pub outboard : List ℕ → ℕ
outboard s = get_or s outboard_at 0

abbrev pub declared : List ℕ → ℕ
declared s = get_or s declared_at 0

-- SEAT; tested is 0 where no tests were passed
abbrev pub positions : List ℕ → ℕ
positions s = get_or s positions_at 0

abbrev pub tested : List ℕ → ℕ
tested s = get_or s tested_at 0

-- FIT: weight and count of each line in turn
abbrev pub fittings_of : List ℕ → List ℕ
fittings_of s = drop fittings_at s
