-- 02 (xi), computed: the lines of a variant keep their order. Each two that follow one another exchanged, each twice,
-- each left out, and the text stopped after each.
use mathlib.Core.Path.{◌≡◌, refl}
use mathlib.Core.List.{List, [], ◌∷◌, ◌++◌, map}
use Prim.Native.Nat.{ℕ, ◌+◌}
use lib.ListN.{take, drop, get_or}
use Rattle.text.specs.Field.{field_of, agreed}
use Rattle.text.specs.Number.{rest_of, number_of}
use Rattle.text.specs.Line.{read_entry, read_numbers, read_line}
use Rattle.text.specs.Place.{feeds, since_feed, cut_from, cut_lines, joined}
use Rattle.variant.specs.Answered.{Answered, RefusedAt, Done}
use Rattle.form.specs.Parts.{kind_of, numbers_of}
use Rattle.form.specs.Outcome.{wrong}
use Rattle.form.specs.Reading.{read_rows, read_parts, read_form}
use Rattle.sheet.specs.SheetText.{sheet_form, empty_lines, fits_from, fits_of, numbers_on, read_sheet}
use Rattle.sheet.proofs.BaseHull.{sample}
use Rattle.sheet.proofs.Examples.{ended, taken}
use Rattle.variant.specs.VariantText.{variant_form, read_variant}
use Rattle.variant.specs.Joined.{written_in, joined_text}
use Rattle.variant.specs.Given.{two_texts}
use Rattle.variant.proofs.Texts.{variant_with, answered}

-- 01's sheet without its line k, counted from 0; with that line twice; exchanged with the next; stopped before it
unfoldable pub line_of : ℕ → List ℕ
line_of k = get_or (cut_lines sample) k []

unfoldable pub up_to : ℕ → List ℕ
up_to k = joined (take k (cut_lines sample))

unfoldable pub from : ℕ → List ℕ
from k = joined (drop k (cut_lines sample))

without : ℕ → List ℕ
without k = up_to k ++ from (1 + k)

twice : ℕ → List ℕ
twice k = up_to k ++ (line_of k ++ from k)

unfoldable pub exchanged : ℕ → List ℕ
exchanged k = up_to k ++ (line_of (1 + k) ++ (line_of k ++ from (2 + k)))

unfoldable pub eleven : List ℕ
eleven = 0 ∷ 1 ∷ 2 ∷ 3 ∷ 4 ∷ 5 ∷ 6 ∷ 7 ∷ 8 ∷ 9 ∷ 10 ∷ []

-- as a variant of the sheet itself
unfoldable pub as_variant : (ℕ → List ℕ) → List ℕ → List Answered
as_variant f ks = map (λ (k : ℕ). answered (two_texts sample (f k))) ks

unfoldable pub at : ℕ → ℕ → Answered
at line byte = RefusedAt 2 line byte 2

-- HULL and FORM, .., FIT and END
pub exchanged_right :
    as_variant exchanged eleven
    ≡ at 1 1 ∷ at 2 1 ∷ at 3 5 ∷ at 4 5 ∷ at 5 5 ∷ at 6 1 ∷ at 8 1 ∷ at 9 1 ∷ at 10 1 ∷ at 11 1 ∷ at 12 1 ∷ []
unfolding line_of up_to from exchanged eleven as_variant at
    read_variant variant_form joined_text written_in cut_from read_sheet sheet_form numbers_on numbers_of fits_of
    fits_from empty_lines feeds since_feed
    read_form read_parts read_rows kind_of read_line agreed read_numbers read_entry field_of number_of rest_of
exchanged_right = refl

-- HULL, FORM, the STN lines, VOL, .., FIT, which must rise, and END
twice_right :
    as_variant twice (eleven ++ (11 ∷ []))
    ≡ at 2 1 ∷ at 3 1 ∷ at 4 5 ∷ at 5 5 ∷ at 6 5 ∷ at 7 2 ∷ at 8 1 ∷ at 9 1 ∷ at 10 1 ∷ at 11 1
    ∷ RefusedAt 3 12 5 2 ∷ at 13 1 ∷ []
unfolding line_of up_to from twice eleven as_variant at
    read_variant variant_form joined_text written_in cut_from read_sheet sheet_form numbers_on numbers_of fits_of
    fits_from empty_lines feeds since_feed
    read_form read_parts read_rows kind_of read_line agreed read_numbers read_entry field_of number_of rest_of
twice_right = refl

-- only VOL, MASS, PWR and SEAT may be left out, and FIT lines, of which there may be none; by itself a variant says so
without_right :
    (as_variant without (eleven ++ (11 ∷ []))
    ≡ at 1 1 ∷ at 2 1 ∷ at 3 5 ∷ at 4 5 ∷ at 5 5 ∷ at 6 1 ∷ Done ∷ Done ∷ Done ∷ Done ∷ Done ∷ at 12 1 ∷ [])
    × (map (λ (k : ℕ). ended (read_variant (without k))) (eleven ++ (11 ∷ []))
    ≡ wrong 2 1 1 ∷ wrong 2 2 1 ∷ wrong 2 3 5 ∷ wrong 2 4 5 ∷ wrong 2 5 5 ∷ wrong 2 6 1
    ∷ taken ∷ taken ∷ taken ∷ taken ∷ taken ∷ wrong 2 12 1 ∷ [])
unfolding line_of up_to from without eleven as_variant at ended
    read_variant variant_form joined_text written_in cut_from read_sheet sheet_form numbers_on numbers_of fits_of
    fits_from empty_lines feeds since_feed
    read_form read_parts read_rows kind_of read_line agreed read_numbers read_entry field_of number_of rest_of
without_right = (refl, refl)

-- stopped after so many lines; and with none of the four
stopped_right :
    as_variant up_to (eleven ++ (11 ∷ 12 ∷ []))
    ++ map (λ (t : List ℕ). answered (two_texts sample t))
    (variant_with "" ∷ variant_with "FIT\t1\t5\n" ∷ variant_with "END" ∷ variant_with "END\n" ∷ [])
    ≡ at 1 1 ∷ at 2 1 ∷ at 3 1 ∷ at 4 1 ∷ at 5 1 ∷ at 6 1 ∷ at 7 1 ∷ at 8 1 ∷ at 9 1 ∷ at 10 1 ∷ at 11 1 ∷ at 12 1
    ∷ Done ∷ at 7 1 ∷ at 8 1 ∷ at 7 4 ∷ Done ∷ []
unfolding up_to eleven as_variant at
    read_variant variant_form joined_text written_in cut_from read_sheet sheet_form numbers_on numbers_of fits_of
    fits_from empty_lines feeds since_feed
    read_form read_parts read_rows kind_of read_line agreed read_numbers read_entry field_of number_of rest_of
stopped_right = refl
