-- A variant's text is a form that is well made and sayable, so that `form` and `fault` say of it what they say of every
-- form: both round trips, and the place of every refusal, by its own line rules.
use mathlib.Core.Path.{◌≡◌, refl}
use mathlib.Core.Bool.{true}
use mathlib.Core.List.{List}
use Prim.Native.Nat.{ℕ, ◌≤◌}
use native.Mathlib.Omega.{arith}
use lib.ListN.{length}
use Rattle.text.specs.Number.{digits_in, digits_of}
use Rattle.text.proofs.Limits.{narrow, readable}
use Rattle.text.proofs.Most.{numbers_most}
use Rattle.form.specs.Parts.{Rows, kind_of}
use Rattle.form.proofs.Letters.{line_made, kinds_made}
use Rattle.form.proofs.Most.{kinds_most, parts_most}
use Rattle.form.proofs.Made.{disjoint, apart, told, parts_made, well_made}
use Rattle.fault.specs.Rules.{ByRules}
use Rattle.fault.proofs.Sayable.{can_be, sayable}
use Rattle.fault.proofs.Longest.{kinds_longest, parts_longest, parts_longest_lem}
use Rattle.fault.proofs.Readers.{PlacesTold, places_told}
use Rattle.variant.specs.VariantText.{variant_form, read_variant}

pub variant_made : well_made variant_form ≡ true
unfolding well_made parts_made told apart disjoint kinds_made line_made readable narrow kind_of
    parts_most kinds_most numbers_most digits_of digits_in variant_form
variant_made = refl

pub variant_sayable : sayable variant_form.parts ≡ true
unfolding sayable can_be variant_form
variant_sayable = refl

variant_length : parts_longest variant_form.parts ≡ 1439
unfolding parts_longest kinds_longest variant_form
variant_length = refl

-- no text by the rules of variants is longer than a sheet's
pub variant_longest : (t : List ℕ) → ByRules variant_form t → length t ≤ 1439
variant_longest t r = omega (arith, variant_length, parts_longest_lem variant_form.parts t r)

variant_room : parts_longest variant_form.parts ≤ variant_form.room
unfolding variant_form
variant_room = omega (arith, variant_length)

-- the most bytes that are read
pub room_right : variant_form.room ≡ 4096
unfolding variant_form
room_right = refl

pub variant_places : PlacesTold variant_form read_variant
unfolding read_variant
variant_places = places_told variant_form variant_made variant_sayable variant_room (λ (v : List Rows). v)
