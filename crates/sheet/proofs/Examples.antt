-- Worked texts of sheets, computed: 01's own sheet, and the places where a reader slips.
use mathlib.Core.Path.{◌≡◌, refl}
use mathlib.Core.List.{List, [], ◌∷◌, ◌++◌, map}
use Prim.Native.Nat.{ℕ, suc}
use Prim.Native.String.{String}
use lib.ListN.{replicate}
use Rattle.text.specs.Quoted.{bytes}
use Rattle.text.specs.Field.{field_of, agreed}
use Rattle.text.specs.Number.{rest_of, number_of, digits_in, digits_of}
use Rattle.text.specs.Line.{read_entry, read_numbers, read_line, numbers_text}
use Rattle.text.specs.Place.{feeds, since_feed, cut_from}
use Rattle.form.specs.Parts.{kind_of, numbers_of}
use Rattle.form.specs.Outcome.{Verdict, right, wrong}
use Rattle.form.specs.Reading.{read_rows, read_parts, read_form}
use Rattle.form.specs.Writing.{rows_text, parts_text}
use Rattle.sheet.specs.SheetText.{sheet_form, empty_lines, fits_from, fit_rows, fits_of, numbers_on, rows_on}
use Rattle.sheet.specs.SheetText.{read_sheet, sheet_text}
use Rattle.sheet.specs.Renewed.{tabs, with_one, renewed}
use Rattle.sheet.proofs.BaseHull.{hull, form, mass, power, seats, sheet_with, with_rest, sample, new_sample}

-- ---- 01's sheet, and its numbers

station : List ℕ
station = 1000 ∷ replicate 6 500

numbers : List ℕ
numbers =
    0 ∷ 4500 ∷ 4000 ∷ 1200 ∷ 500 ∷ 0 ∷ 1 ∷ (station ++ (station ++ (station ++ (station
    ++ (0 ∷ 0 ∷ 0 ∷ 200000 ∷ 0 ∷ 0 ∷ 1 ∷ 20000 ∷ 5 ∷ 3 ∷ 3334 ∷ 1 ∷ replicate 46 0)))))

-- its FIT line has two numbers, as 01 prints it: one piece
sample_reads : (read_sheet sample ≡ right numbers) × (read_sheet new_sample ≡ right numbers)
unfolding station numbers read_sheet sheet_form numbers_on numbers_of fits_of fits_from empty_lines
    read_form read_parts read_rows kind_of read_line agreed read_numbers read_entry field_of number_of rest_of
sample_reads = (refl, refl)

sample_written : (sheet_text numbers ≡ new_sample) × (renewed sample ≡ new_sample)
unfolding station numbers sheet_text sheet_form rows_on fit_rows
    parts_text rows_text kind_of numbers_text digits_of digits_in renewed with_one tabs cut_from agreed
sample_written = (refl, refl)

-- ---- where a reader slips: each text, and how its reading must end

-- how a reading ended, whatever was said
unfoldable pub ended : {A : Type 0} → Verdict A → Verdict ℕ
ended (right a) = right 0
ended (wrong number line byte) = wrong number line byte

abbrev pub taken : Verdict ℕ
taken = right 0

unfoldable pub with_hull : String → List ℕ
with_hull line = sheet_with line form mass power seats (bytes "END\n")

unfoldable pub with_form : String → List ℕ
with_form line = sheet_with hull line mass power seats (bytes "END\n")

with_power : String → List ℕ
with_power line = sheet_with hull form mass line seats (bytes "END\n")

unfoldable pub with_seats : String → List ℕ
with_seats line = sheet_with hull form mass power line (bytes "END\n")

-- all 24 FIT lines
unfoldable pub fits : ℕ → List ℕ → List ℕ
fits n [] = []
fits n (k ∷ ks) = bytes "FIT\t" ++ (digits_of n ++ (bytes "\t5\n" ++ fits (suc n) ks))

unfoldable pub with_fits : String → List ℕ
with_fits rest = sheet_with hull form mass power seats (fits 1 (replicate 24 0) ++ bytes rest)

texts : List (List ℕ)
texts =
    -- a text that stops early, and one that goes on
    [] ∷ with_rest "FIT\t1\t3334\n" ∷ with_rest "FIT\t1\t3334\nEND" ∷ with_rest "FIT\t1\t3334\nEND\n\n"
    -- HULL's limits
    ∷ with_hull "HULL\t16\n" ∷ with_hull "HULL\t15\n"
    -- a length below its limit, told before a broken reference, which none could be right for
    ∷ with_form "FORM\t1999\tx\t1200\t500\t0\t1\n"
    -- reference above length is 3 at its own field, before the broken width; its form is judged first; so is the byte
    -- that ends a number
    ∷ with_form "FORM\t4500\t4501\tx\t500\t0\t1\n" ∷ with_form "FORM\t4500\t4501x\t1200\t500\t0\t1\n"
    ∷ with_form "FORM\t6001\n"
    -- `-` for the tested persons alone, and 0 for none of the two
    ∷ with_seats "SEAT\t5\t0\n" ∷ with_seats "SEAT\t5\t-\n" ∷ with_seats "SEAT\t-\t3\n"
    -- ten digits exceed 32 bits and never wrap; eleven are 2
    ∷ with_power "PWR\t1\t4294967296\n" ∷ with_power "PWR\t1\t9999999999\n" ∷ with_power "PWR\t1\t10000000000\n"
    -- FIT lines: none, line 0, weight 0, not rising, past 24, all, a 25th, another tag
    ∷ with_rest "END\n" ∷ with_rest "FIT\t0\t5\nEND\n" ∷ with_rest "FIT\t1\t0\nEND\n"
    ∷ with_rest "FIT\t2\t5\nFIT\t2\t5\nEND\n" ∷ with_rest "FIT\t1\t5\nFIT\t24\t5\nFIT\t24\t5\nEND\n"
    ∷ with_rest "FIT\t25\t5\nEND\n"
    ∷ with_fits "END\n" ∷ with_fits "FIT\t25\t5\nEND\n" ∷ with_rest "FIX\t1\t5\nEND\n"
    -- 4,096 bytes are read by their fields, 4,097 are not
    ∷ (bytes "HULL\t" ++ replicate 4091 48) ∷ (bytes "HULL\t" ++ replicate 4092 48)
    ∷ []

texts_right :
    map (λ (t : List ℕ). ended (read_sheet t)) texts
    ≡ wrong 2 1 1 ∷ wrong 2 12 1 ∷ wrong 2 12 4 ∷ wrong 2 13 1
    ∷ wrong 3 1 6 ∷ taken
    ∷ wrong 3 2 6
    ∷ wrong 3 2 11 ∷ wrong 2 2 15 ∷ wrong 2 2 10
    ∷ wrong 3 10 8 ∷ taken ∷ wrong 2 10 6
    ∷ wrong 3 9 7 ∷ wrong 3 9 7 ∷ wrong 2 9 17
    ∷ taken ∷ wrong 3 11 5 ∷ wrong 3 11 7 ∷ wrong 3 12 5 ∷ wrong 3 13 5 ∷ wrong 3 11 5
    ∷ taken ∷ wrong 2 35 1 ∷ wrong 2 11 3
    ∷ wrong 2 1 7 ∷ wrong 2 0 0
    ∷ []
unfolding ended texts with_hull with_form with_power with_seats with_fits fits
    read_sheet sheet_form digits_of digits_in feeds since_feed
    read_form read_parts read_rows kind_of read_line agreed read_numbers read_entry field_of number_of rest_of
texts_right = refl
