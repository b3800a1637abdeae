-- 02 (v), of the two texts that there are: what is refused with 2 goes wrong by the line rules at its line and byte,
-- what is refused with 3 has a field outside its limits there, and what is accepted is by the rules and within the
-- limits. `fault` has it of every form, with the definitions that these laws speak in.
use mathlib.Core.Path.{◌≡◌, refl}
use mathlib.Core.Bool.{true}
use mathlib.Core.List.{List}
use Prim.Native.Nat.{ℕ, ◌≤◌}
use native.Mathlib.Omega.{arith}
use lib.ListN.{length}
use Rattle.fault.specs.Rules.{ByRules}
use Rattle.fault.proofs.Sayable.{can_be, sayable}
use Rattle.fault.proofs.Longest.{kinds_longest, parts_longest, parts_longest_lem}
use Rattle.fault.proofs.Readers.{PlacesTold, places_told}
use Rattle.sheet.specs.SheetText.{sheet_form, sheet_of, read_sheet}
use Rattle.sheet.specs.EngineText.{engine_form, only_rows, read_engines}
use Rattle.sheet.proofs.WellMade.{sheet_made, engines_made}

-- ---- there are texts by the rules of both forms, and none of them is too long to be read

pub sheet_sayable : sayable sheet_form.parts ≡ true
unfolding sayable can_be sheet_form
sheet_sayable = refl

pub engines_sayable : sayable engine_form.parts ≡ true
unfolding sayable can_be engine_form
engines_sayable = refl

sheet_length : parts_longest sheet_form.parts ≡ 1439
unfolding parts_longest kinds_longest sheet_form
sheet_length = refl

engines_length : parts_longest engine_form.parts ≡ 1040
unfolding parts_longest kinds_longest engine_form
engines_length = refl

pub sheet_longest : (t : List ℕ) → ByRules sheet_form t → length t ≤ 1439
sheet_longest t r = omega (arith, sheet_length, parts_longest_lem sheet_form.parts t r)

pub engines_longest : (t : List ℕ) → ByRules engine_form t → length t ≤ 1040
engines_longest t r = omega (arith, engines_length, parts_longest_lem engine_form.parts t r)

-- ---- their readers tell the places

-- the most bytes that are read
pub rooms_right : (sheet_form.room ≡ 4096) × (engine_form.room ≡ 4096)
unfolding sheet_form engine_form
rooms_right = (refl, refl)

sheet_room : parts_longest sheet_form.parts ≤ sheet_form.room
unfolding sheet_form
sheet_room = omega (arith, sheet_length)

engines_room : parts_longest engine_form.parts ≤ engine_form.room
unfolding engine_form
engines_room = omega (arith, engines_length)

pub sheet_places : PlacesTold sheet_form read_sheet
unfolding read_sheet
sheet_places = places_told sheet_form sheet_made sheet_sayable sheet_room sheet_of

pub engine_places : PlacesTold engine_form read_engines
unfolding read_engines
engine_places = places_told engine_form engines_made engines_sayable engines_room only_rows
