-- 01, The sheet: where each number stands among the words of a sheet, in the order of its text; each place follows
-- from the one before. The one list of places.
use Rattle.std.specs.Prelude.{ℕ, ◌+◌, ◌-◌, ◌*◌}
use Rattle.sheet.specs.Lines.{fittings}

-- ---- FORM

abbrev pub length_at : ℕ
length_at = 0

abbrev pub reference_at : ℕ
reference_at = 1 + length_at

abbrev pub transom_width_at : ℕ
transom_width_at = 1 + reference_at

abbrev pub transom_height_at : ℕ
transom_height_at = 1 + transom_width_at

abbrev pub flat_bottom_at : ℕ
flat_bottom_at = 1 + transom_height_at

abbrev pub remote_at : ℕ
remote_at = 1 + flat_bottom_at

-- ---- STN: four stations, Q R S T, of seven readings each

abbrev pub stations : ℕ
stations = 4

abbrev pub readings : ℕ
readings = 7

abbrev pub station_at : ℕ → ℕ
station_at k = 1 + remote_at + readings * k

-- ---- VOL

abbrev pub aft_at : ℕ
aft_at = station_at stations

abbrev pub well_at : ℕ
well_at = 1 + aft_at

abbrev pub flooding_at : ℕ
flooding_at = 1 + well_at

-- ---- MASS

abbrev pub bare_at : ℕ
bare_at = 1 + flooding_at

abbrev pub fuel_at : ℕ
fuel_at = 1 + bare_at

abbrev pub machinery_at : ℕ
machinery_at = 1 + fuel_at

-- ---- PWR

abbrev pub outboard_at : ℕ
outboard_at = 1 + machinery_at

abbrev pub declared_at : ℕ
declared_at = 1 + outboard_at

-- ---- SEAT

abbrev pub positions_at : ℕ
positions_at = 1 + declared_at

abbrev pub tested_at : ℕ
tested_at = 1 + positions_at

-- ---- FIT: two words for each fitting line, counted from 1: the weight of one piece, and how many there are

abbrev pub fittings_at : ℕ
fittings_at = 1 + tested_at

abbrev pub fitting_word : ℕ → ℕ
fitting_word line = fittings_at + 2 * (line - 1)

-- ---- all of them

-- the words that the register holds of a hull
abbrev pub sheet_words : ℕ
sheet_words = fittings_at + 2 * fittings

-- those and the HULL number before them
abbrev pub text_words : ℕ
text_words = 1 + sheet_words
