-- 02 (vi): FIT lines of two numbers and of three, computed: what each is read as, where it is refused, and what is
-- written of it.
use mathlib.Core.Path.{◌≡◌, refl}
use mathlib.Core.Bool.{true, false}
use mathlib.Core.List.{List, [], ◌∷◌, map}
use Prim.Native.Nat.{ℕ}
use Prim.Native.String.{String}
use lib.ListN.{take, drop, set}
use Rattle.text.specs.Quoted.{bytes}
use Rattle.text.specs.Field.{field_of, agreed}
use Rattle.text.specs.Number.{rest_of, number_of, digits_in, digits_of}
use Rattle.text.specs.Line.{read_entry, read_numbers, read_line, numbers_text}
use Rattle.text.specs.Place.{feeds, since_feed, cut_from}
use Rattle.form.specs.Parts.{kind_of, numbers_of}
use Rattle.form.specs.Outcome.{Verdict, right, wrong, saying}
use Rattle.form.specs.Reading.{read_rows, read_parts, read_form}
use Rattle.form.specs.Writing.{rows_text, parts_text}
use Rattle.sheet.specs.SheetText.{sheet_form, empty_lines, fits_from, fit_rows, fits_of, numbers_on, rows_on}
use Rattle.sheet.specs.SheetText.{read_sheet, sheet_text}
use Rattle.sheet.specs.Renewed.{tabs, with_one, renewed, none_old, is_new}
use Rattle.sheet.proofs.BaseHull.{with_rest, new_sample}
use Rattle.sheet.proofs.Examples.{ended}
use Rattle.sheet.proofs.PlaceFigures.{places, each}

-- ---- what FIT lines are read as: weight and count of the first four lines

first_fits : Verdict (List ℕ) → Verdict (List ℕ)
first_fits v = saying (λ (s : List ℕ). take 8 (drop 45 s)) v

reads : String → Verdict (List ℕ)
reads fits = first_fits (read_sheet (with_rest fits))

read_right :
    map reads (
    -- one piece, by two numbers and by three; two and three pieces
    "FIT\t1\t3334\nEND\n" ∷ "FIT\t1\t3334\t1\nEND\n" ∷ "FIT\t2\t1667\t2\nEND\n" ∷ "FIT\t1\t1111\t3\nEND\n"
    -- lines of both kinds, either first
    ∷ "FIT\t1\t120\t12\nFIT\t2\t7\nFIT\t4\t9\t99\nEND\n" ∷ "FIT\t1\t7\nFIT\t2\t120\t12\nFIT\t3\t8\nEND\n"
    -- the most that a line may weigh, in one piece, in two, in ten, in 99
    ∷ "FIT\t1\t500000\nFIT\t2\t250000\t2\nFIT\t3\t50000\t10\nFIT\t4\t5050\t99\nEND\n"
    ∷ []
    )
    ≡ right (3334 ∷ 1 ∷ 0 ∷ 0 ∷ 0 ∷ 0 ∷ 0 ∷ 0 ∷ []) ∷ right (3334 ∷ 1 ∷ 0 ∷ 0 ∷ 0 ∷ 0 ∷ 0 ∷ 0 ∷ [])
    ∷ right (0 ∷ 0 ∷ 1667 ∷ 2 ∷ 0 ∷ 0 ∷ 0 ∷ 0 ∷ []) ∷ right (1111 ∷ 3 ∷ 0 ∷ 0 ∷ 0 ∷ 0 ∷ 0 ∷ 0 ∷ [])
    ∷ right (120 ∷ 12 ∷ 7 ∷ 1 ∷ 0 ∷ 0 ∷ 9 ∷ 99 ∷ []) ∷ right (7 ∷ 1 ∷ 120 ∷ 12 ∷ 8 ∷ 1 ∷ 0 ∷ 0 ∷ [])
    ∷ right (500000 ∷ 1 ∷ 250000 ∷ 2 ∷ 50000 ∷ 10 ∷ 5050 ∷ 99 ∷ [])
    ∷ []
unfolding reads first_fits read_sheet sheet_form numbers_on numbers_of fits_of fits_from empty_lines
    read_form read_parts read_rows kind_of read_line agreed read_numbers read_entry field_of number_of rest_of
read_right = refl

-- ---- where they are refused; the line is the sheet's 11th

refused : String → Verdict ℕ
refused fit = ended (read_sheet (with_rest fit))

refused_right :
    map refused (
    -- the product, at the count; in either order of the two, and one above
    "FIT\t1\t5051\t99\n" ∷ "FIT\t1\t500000\t2\n" ∷ "FIT\t1\t250001\t2\n" ∷ "FIT\t24\t50001\t10\n"
    -- the count's own limits; the weight's, told before the count's
    ∷ "FIT\t1\t5\t0\n" ∷ "FIT\t1\t5\t100\n" ∷ "FIT\t1\t500001\t0\n" ∷ "FIT\t1\t0\t5\n" ∷ "FIT\t1\t500001\n"
    -- form first, at the count too, and the byte that ends it; none; a leading 0; a `-`; a fourth number
    ∷ "FIT\t1\t500000\t2\t" ∷ "FIT\t1\t5\t\n" ∷ "FIT\t1\t5\t01\n" ∷ "FIT\t1\t5\t-\n" ∷ "FIT\t1\t5\t7\t1\n"
    -- at the weight's end a tab and a line feed are right, and no other; a weight is not left out
    ∷ "FIT\t1\t5 1\n" ∷ "FIT\t1\t500001x" ∷ "FIT\t1\t5" ∷ "FIT\t1\t5\t" ∷ "FIT\t1\t5\t1" ∷ "FIT\t1\n" ∷ "FIT\t1\t\n"
    -- ten digits never wrap, eleven are 2
    ∷ "FIT\t1\t5\t4294967297\n" ∷ "FIT\t1\t5\t9999999999\n" ∷ "FIT\t1\t5\t10000000000\n"
    -- a line number that does not rise after a line of before
    ∷ "FIT\t2\t5\nFIT\t2\t5\t1\n" ∷ "FIT\t2\t5\t1\nFIT\t1\t5\n"
    ∷ []
    )
    ≡ wrong 3 11 12 ∷ wrong 3 11 14 ∷ wrong 3 11 14 ∷ wrong 3 11 14
    ∷ wrong 3 11 9 ∷ wrong 3 11 9 ∷ wrong 3 11 7 ∷ wrong 3 11 7 ∷ wrong 3 11 7
    ∷ wrong 2 11 15 ∷ wrong 2 11 9 ∷ wrong 2 11 10 ∷ wrong 2 11 9 ∷ wrong 2 11 10
    ∷ wrong 2 11 8 ∷ wrong 2 11 13 ∷ wrong 2 11 8 ∷ wrong 2 11 9 ∷ wrong 2 11 10 ∷ wrong 2 11 6 ∷ wrong 2 11 7
    ∷ wrong 3 11 9 ∷ wrong 3 11 9 ∷ wrong 2 11 19
    ∷ wrong 3 12 5 ∷ wrong 3 12 5
    ∷ []
unfolding refused ended read_sheet sheet_form feeds since_feed
    read_form read_parts read_rows kind_of read_line agreed read_numbers read_entry field_of number_of rest_of
refused_right = refl

-- 01's sheet with its count, from its FIT line on; the sheet without one is the same before
fit_and_end : List ℕ
fit_and_end = bytes "FIT\t1\t3334\t1\nEND\n"

-- stopped before a byte of these, or spoilt there, it is wrong at that byte
new_bytes_right :
    (each (λ k. ended (read_sheet (take k new_sample))) 222 fit_and_end ≡ places 11 1 fit_and_end)
    × (each (λ k. ended (read_sheet (set new_sample k 13))) 222 fit_and_end ≡ places 11 1 fit_and_end)
unfolding fit_and_end ended each places read_sheet sheet_form feeds since_feed
    read_form read_parts read_rows kind_of read_line agreed read_numbers read_entry field_of number_of rest_of
new_bytes_right = (refl, refl)

-- ---- what is written of lines of both kinds, and the text renewed

mixed : List ℕ
mixed = with_rest "FIT\t1\t120\t12\nFIT\t2\t7\nFIT\t9\t40\t1\nFIT\t24\t500000\nEND\n"

threes : List ℕ
threes = with_rest "FIT\t1\t120\t12\nFIT\t2\t7\t1\nFIT\t9\t40\t1\nFIT\t24\t500000\t1\nEND\n"

rewritten_right :
    (saying sheet_text (read_sheet mixed) ≡ right threes) × ((renewed mixed ≡ threes) × (renewed threes ≡ threes))
unfolding mixed threes sheet_text read_sheet sheet_form rows_on fit_rows numbers_on numbers_of fits_of fits_from empty_lines
    read_form read_parts read_rows kind_of read_line agreed read_numbers read_entry field_of number_of rest_of
    parts_text rows_text numbers_text digits_of digits_in renewed with_one tabs cut_from
rewritten_right = (refl, (refl, refl))

-- of which texts it may be said that they are written back as they are: those without a line of two numbers
new_right :
    map is_new (new_sample ∷ threes ∷ with_rest "END\n" ∷ mixed ∷ with_rest "FIT\t1\t3334\nEND\n" ∷ [])
    ≡ true ∷ true ∷ true ∷ false ∷ false ∷ []
unfolding mixed threes none_old tabs agreed cut_from
new_right = refl
