-- A sheet's text and a text of engine rows are forms that are well made, so each has both round trips of `form`.
use mathlib.Core.Path.{◌≡◌, refl}
use mathlib.Core.Bool.{true}
use Rattle.text.specs.Number.{digits_in, digits_of}
use Rattle.text.proofs.Limits.{narrow, readable}
use Rattle.form.specs.Parts.{kind_of}
use Rattle.form.proofs.Letters.{line_made, kinds_made}
use Rattle.text.proofs.Most.{numbers_most}
use Rattle.form.proofs.Most.{kinds_most, parts_most}
use Rattle.form.proofs.Made.{disjoint, apart, told, parts_made, well_made}
use Rattle.sheet.specs.SheetText.{sheet_form}
use Rattle.sheet.specs.EngineText.{engine_form}

pub sheet_made : well_made sheet_form ≡ true
unfolding well_made parts_made told apart disjoint kinds_made line_made readable narrow kind_of
    parts_most kinds_most numbers_most digits_of digits_in sheet_form
sheet_made = refl

pub engines_made : well_made engine_form ≡ true
unfolding well_made parts_made told apart disjoint kinds_made line_made readable narrow kind_of
    parts_most kinds_most numbers_most digits_of digits_in engine_form
engines_made = refl
