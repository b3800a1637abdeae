-- 02 (xi), computed: what two right texts make, as bytes and as numbers, whichever of the four lines are left out; and
-- how they are put plainly.
use mathlib.Core.Path.{◌≡◌, refl}
use mathlib.Core.Bool.{Bool, true, false, cond}
use mathlib.Core.List.{List, [], ◌∷◌, ◌++◌, map}
use Prim.Native.Nat.{ℕ}
use Prim.Native.String.{String}
use lib.ListN.{replicate}
use Rattle.text.specs.Quoted.{bytes}
use Rattle.text.specs.Field.{field_of, agreed}
use Rattle.text.specs.Number.{rest_of, number_of}
use Rattle.text.specs.Line.{read_entry, read_numbers, read_line}
use Rattle.text.specs.Place.{cut_from}
use Rattle.form.specs.Parts.{Rows, kind_of, numbers_of}
use Rattle.form.specs.Outcome.{Verdict, right, wrong}
use Rattle.form.specs.Reading.{read_rows, read_parts, read_form}
use Rattle.sheet.specs.SheetText.{sheet_form, empty_lines, fits_from, fits_of, numbers_on, read_sheet}
use Rattle.sheet.proofs.BaseHull.{form, stations, mass, power, seats, sheet_with, with_rest, sample}
use Rattle.variant.specs.VariantText.{variant_form, read_variant}
use Rattle.variant.specs.Joined.{written_in, joined_text}
use Rattle.variant.specs.JoinedRows.{handed_rows, rows_from, joined_rows}
use Rattle.variant.specs.Given.{one_text, two_texts, read_given, plainly}
use Rattle.variant.proofs.Texts.{variant_with, other_vol, other_mass, other_power, other_seats, other}

-- ---- figures by hand

-- all that may be left out, and VOL and PWR
abbrev bare : List ℕ
bare = variant_with "END\n"

abbrev seated : List ℕ
seated = variant_with "MASS\t300000\t1\t2\nSEAT\t9\t-\nFIT\t2\t7\t3\nEND\n"

-- under a HULL number of its own
abbrev numbered : List ℕ
numbered = bytes "HULL\t7\n" ++ (bytes form ++ (stations ++ bytes "END\n"))

-- the sheet's bytes, without its FIT; the parent's VOL and PWR and no FIT 1; the variant's HULL number; each from both
pub texts_made :
    joined_text sample bare ∷ joined_text sample seated ∷ joined_text sample numbered ∷ joined_text other bare
    ∷ joined_text other seated ∷ joined_text sample other ∷ joined_text [] sample ∷ []
    ≡ with_rest "END\n"
    ∷ variant_with "VOL\t0\t0\t0\nMASS\t300000\t1\t2\nPWR\t1\t20000\nSEAT\t9\t-\nFIT\t2\t7\t3\nEND\n"
    ∷ sheet_with "HULL\t7\n" form mass power seats (bytes "END\n")
    ∷ variant_with "VOL\t11\t12\t13\nMASS\t21\t22\t23\nPWR\t0\t31\nSEAT\t8\t7\nEND\n"
    ∷ variant_with "VOL\t11\t12\t13\nMASS\t300000\t1\t2\nPWR\t0\t31\nSEAT\t9\t-\nFIT\t2\t7\t3\nEND\n"
    ∷ other ∷ sample ∷ []
unfolding joined_text written_in cut_from agreed
texts_made = refl

-- the numbers of a sheet that starts as 01's does, under a HULL number: VOL to SEAT, and then the fitting lines
station : List ℕ
station = 1000 ∷ replicate 6 500

numbers : ℕ → List ℕ → List ℕ
numbers hull rest =
    hull ∷ 4500 ∷ 4000 ∷ 1200 ∷ 500 ∷ 0 ∷ 1 ∷ (station ++ (station ++ (station ++ (station ++ rest))))

sheets_made :
    map read_given (two_texts sample bare ∷ two_texts sample seated ∷ two_texts sample numbered ∷ two_texts other bare
    ∷ two_texts other seated ∷ two_texts other sample ∷ one_text sample ∷ [])
    ≡ right (numbers 0 (0 ∷ 0 ∷ 0 ∷ 200000 ∷ 0 ∷ 0 ∷ 1 ∷ 20000 ∷ 5 ∷ 3 ∷ replicate 48 0))
    ∷ right (numbers 0 (0 ∷ 0 ∷ 0 ∷ 300000 ∷ 1 ∷ 2 ∷ 1 ∷ 20000 ∷ 9 ∷ 0 ∷ 0 ∷ 0 ∷ 7 ∷ 3 ∷ replicate 44 0))
    ∷ right (numbers 7 (0 ∷ 0 ∷ 0 ∷ 200000 ∷ 0 ∷ 0 ∷ 1 ∷ 20000 ∷ 5 ∷ 3 ∷ replicate 48 0))
    ∷ right (numbers 0 (11 ∷ 12 ∷ 13 ∷ 21 ∷ 22 ∷ 23 ∷ 0 ∷ 31 ∷ 8 ∷ 7 ∷ replicate 48 0))
    ∷ right (numbers 0 (11 ∷ 12 ∷ 13 ∷ 300000 ∷ 1 ∷ 2 ∷ 0 ∷ 31 ∷ 9 ∷ 0 ∷ 0 ∷ 0 ∷ 7 ∷ 3 ∷ replicate 44 0))
    ∷ right (numbers 0 (0 ∷ 0 ∷ 0 ∷ 200000 ∷ 0 ∷ 0 ∷ 1 ∷ 20000 ∷ 5 ∷ 3 ∷ 3334 ∷ 1 ∷ replicate 46 0))
    ∷ right (numbers 0 (0 ∷ 0 ∷ 0 ∷ 200000 ∷ 0 ∷ 0 ∷ 1 ∷ 20000 ∷ 5 ∷ 3 ∷ 3334 ∷ 1 ∷ replicate 46 0))
    ∷ []
unfolding station numbers read_variant variant_form joined_text written_in cut_from
    read_sheet sheet_form numbers_on numbers_of fits_of fits_from empty_lines
    read_form read_parts read_rows kind_of read_line agreed read_numbers read_entry field_of number_of rest_of
sheets_made = refl

-- put plainly: two right texts as the one that they make; what is refused, and one text, as it is
plainly_right :
    map plainly (two_texts other bare ∷ two_texts sample other ∷ two_texts bare bare ∷ two_texts sample [] ∷ one_text other
    ∷ one_text bare ∷ [])
    ≡ one_text (variant_with "VOL\t11\t12\t13\nMASS\t21\t22\t23\nPWR\t0\t31\nSEAT\t8\t7\nEND\n") ∷ one_text other
    ∷ two_texts bare bare ∷ two_texts sample [] ∷ one_text other ∷ one_text bare ∷ []
unfolding read_variant variant_form joined_text written_in cut_from
    read_sheet sheet_form numbers_on numbers_of fits_of fits_from empty_lines
    read_form read_parts read_rows kind_of read_line agreed read_numbers read_entry field_of number_of rest_of
plainly_right = refl

-- ---- each of the sixteen: which of VOL, MASS, PWR and SEAT are left out

-- for each of the four whether it is there
data Four : Type 0 where
  four : Bool → Bool → Bool → Bool → Four

both : (Bool → Four) → List Four
both f = f true ∷ f false ∷ []

sixteen : List Four
sixteen =
    both (four true true true) ++ (both (four true true false) ++ (both (four true false true)
    ++ (both (four true false false) ++ (both (four false true true) ++ (both (four false true false)
    ++ (both (four false false true) ++ both (four false false false)))))))

-- a line if it is there, and else another
line : Bool → String → String → List ℕ
line there own else = cond there (bytes own) (bytes else)

-- 01's start and its lines that are there, others where they are not, and a fitting
made : String → String → String → String → Four → List ℕ
made vol mass' power' seats' (four v m p s) =
    variant_with "" ++ (line v "VOL\t0\t0\t0\n" vol ++ (line m mass mass' ++ (line p power power'
    ++ (line s seats seats' ++ bytes "FIT\t4\t44\t4\nEND\n"))))

leaving : Four → List ℕ
leaving f = made "" "" "" "" f

-- with 01's sheet for parent all come to one text; with another each line is whose it is, and the sheet that of a text
-- with those lines written in
sixteen_right :
    (map (λ (f : Four). joined_text sample (leaving f)) sixteen ≡ replicate 16 (with_rest "FIT\t4\t44\t4\nEND\n"))
    × (map (λ (f : Four). joined_text other (leaving f)) sixteen
    ≡ map (made other_vol other_mass other_power other_seats) sixteen)
    × (map (λ (f : Four). read_given (two_texts other (leaving f))) sixteen
    ≡ map (λ (f : Four). read_sheet (made other_vol other_mass other_power other_seats f)) sixteen)
unfolding both sixteen line made leaving read_variant variant_form joined_text written_in cut_from
    read_sheet sheet_form numbers_on numbers_of fits_of fits_from empty_lines
    read_form read_parts read_rows kind_of read_line agreed read_numbers read_entry field_of number_of rest_of
sixteen_right = (refl, refl, refl)

-- and so are their rows
rows_in : Verdict (List Rows) → List Rows
rows_in (right v) = v
rows_in (wrong n l b) = []

rows_right :
    map (λ (f : Four). joined_rows (rows_in (read_form sheet_form other)) (rows_in (read_variant (leaving f)))) sixteen
    ≡ map (λ (f : Four). rows_in (read_form sheet_form (made other_vol other_mass other_power other_seats f))) sixteen
unfolding rows_in both sixteen line made leaving read_variant variant_form handed_rows rows_from sheet_form
    read_form read_parts read_rows kind_of read_line agreed read_numbers read_entry field_of number_of rest_of
rows_right = refl
