-- 02 (v): where texts are wrong, computed. Figures counted by hand, each with some beside it; and 01's sheet and engine
-- lines stopped at each byte, and spoilt at each by a carriage return.
use mathlib.Core.Path.{◌≡◌, refl}
use mathlib.Core.Bool.{true, false}
use mathlib.Core.List.{List, [], ◌∷◌, ◌++◌, map}
use Prim.Native.Nat.{ℕ, suc}
use lib.Dec.{eqb}
use lib.ListN.{replicate, set, take}
use Rattle.text.specs.Quoted.{bytes, feed}
use Rattle.text.specs.Field.{field_of, agreed}
use Rattle.text.specs.Number.{rest_of, number_of, digits_in, digits_of}
use Rattle.text.specs.Line.{read_entry, read_numbers, read_line}
use Rattle.text.specs.Place.{feeds, since_feed}
use Rattle.form.specs.Parts.{kind_of}
use Rattle.form.specs.Outcome.{Verdict, wrong}
use Rattle.form.specs.Reading.{read_rows, read_parts, read_form}
use Rattle.sheet.specs.SheetText.{sheet_form, read_sheet}
use Rattle.sheet.specs.EngineText.{engine_form, read_engines}
use Rattle.sheet.proofs.BaseHull.{with_rest, sample}
use Rattle.sheet.proofs.Examples.{ended, taken, with_hull, with_form, with_seats, fits, with_fits}
use Rattle.sheet.proofs.EngineExamples.{rows}

-- a text, with what its reading must give
infix 5 ◌gives◌
data Figure : Type 0 where
  ◌gives◌ : List ℕ → Verdict ℕ → Figure

abbrev text : Figure → List ℕ
text (t gives v) = t

abbrev given : Figure → Verdict ℕ
given (t gives v) = v

-- ---- figures by hand

sheet_figures : List Figure
sheet_figures =
    -- a leading zero, eleven digits, ten; a number that is not ended, and one that is
    (bytes "HULL\t01" gives wrong 2 1 7) ∷ (bytes "HULL\t00\n" gives wrong 2 1 7)
    ∷ (bytes "HULL\t12345678901" gives wrong 2 1 16) ∷ (bytes "HULL\t1234567890" gives wrong 2 1 16)
    ∷ (bytes "HULL\t1234567890\t" gives wrong 2 1 16) ∷ (bytes "HULL\t1234567890\n" gives wrong 3 1 6)
    ∷ (bytes "HULL\t1" gives wrong 2 1 7) ∷ (bytes "HULL\t1\n" gives wrong 2 2 1)
    ∷ (bytes "HULL\t16\n" gives wrong 3 1 6)
    ∷ (bytes "HULL\t\n" gives wrong 2 1 6) ∷ (bytes "HULL\t1\t\n" gives wrong 2 1 7)
    -- a reference above its length, and none above; the line ended after it; both at the byte that must end it
    ∷ (with_form "FORM\t4500\t4501\t1200\t500\t0\t1\n" gives wrong 3 2 11)
    ∷ (with_form "FORM\t4500\t4500\t1200\t500\t0\t1\n" gives taken)
    ∷ (with_form "FORM\t4500\t4501\n" gives wrong 2 2 15) ∷ (with_form "FORM\t4500\t4500\n" gives wrong 2 2 15)
    ∷ (with_form "FORM\t4500\t4501\t1200\t500\t0\t1\t\n" gives wrong 3 2 11)
    ∷ (with_form "FORM\t4500\t4000\t1200\t500\t0\t1\t\n" gives wrong 2 2 28)
    -- tested persons; the first field at fault decides
    ∷ (with_seats "SEAT\t5\t-1\n" gives wrong 2 10 9) ∷ (with_seats "SEAT\t5\t-" gives wrong 2 10 9)
    ∷ (with_seats "SEAT\t5\t00\n" gives wrong 2 10 9) ∷ (with_seats "SEAT\t5\t\n" gives wrong 2 10 8)
    ∷ (with_seats "SEAT\t5\t1\n" gives taken) ∷ (with_seats "SEAT\t5\t25\n" gives wrong 3 10 8)
    ∷ (with_seats "SEAT\t0\tx\n" gives wrong 3 10 6) ∷ (with_seats "SEAT\t0x\t3\n" gives wrong 2 10 7)
    -- after all FIT lines: one more, be it only begun; an END that is none; nothing
    ∷ (with_fits "FIT\t24\t5\nEND\n" gives wrong 2 35 1) ∷ (with_fits "F" gives wrong 2 35 1)
    ∷ (with_fits "EMD\n" gives wrong 2 35 2) ∷ (with_fits "" gives wrong 2 35 1) ∷ (with_fits "END" gives wrong 2 35 4)
    -- neither F nor E; after END
    ∷ (with_rest "X" gives wrong 2 11 1) ∷ (with_rest "FIT\t1\t5\nfit" gives wrong 2 12 1)
    ∷ (with_rest "END\nEND\n" gives wrong 2 12 1) ∷ (with_rest "END\t\n" gives wrong 2 11 4)
    -- a line feed too many, a space for a tab, one before a line's end, a carriage return, a byte order mark
    ∷ (with_hull "\nHULL\t0\n" gives wrong 2 1 1) ∷ (with_hull "HULL\t0\n\n" gives wrong 2 2 1)
    ∷ (with_hull "HULL 0\n" gives wrong 2 1 5) ∷ (with_seats "SEAT\t5 3\n" gives wrong 2 10 7)
    ∷ (with_seats "SEAT\t5\t3 \n" gives wrong 2 10 9) ∷ (with_hull "HULL\t0\r\n" gives wrong 2 1 7)
    ∷ (with_rest "END\r\n" gives wrong 2 11 4) ∷ ((239 ∷ 187 ∷ 191 ∷ sample) gives wrong 2 1 1)
    ∷ []

engine_figures : List Figure
engine_figures =
    -- no row; a row only begun; a row broken at its second number
    (bytes "END\n" gives wrong 2 1 3) ∷ (bytes "\n" gives wrong 2 1 1) ∷ (bytes "EN" gives wrong 2 1 3)
    ∷ (bytes "ENG\t01\t0\n" gives wrong 2 1 6) ∷ (bytes "ENG\t1\n" gives wrong 2 1 6)
    ∷ (bytes "ENG\t1\t-\n" gives wrong 2 1 7) ∷ (bytes "ENG\t5\t0\nENG\t4\tx\n" gives wrong 3 2 5)
    -- after forty rows: one more, be it only begun, another byte; and before them
    ∷ ((rows 1 (replicate 40 0) ++ bytes "E") gives wrong 2 41 1)
    ∷ ((rows 1 (replicate 40 0) ++ bytes "\n") gives wrong 2 41 1)
    ∷ ((rows 1 (replicate 39 0) ++ bytes "X") gives wrong 2 40 1)
    ∷ ((rows 1 (replicate 39 0) ++ bytes "ENG\t39\t0\n") gives wrong 3 40 5)
    -- a space for a tab, a carriage return, a byte order mark
    ∷ (bytes "ENG 1\t0\n" gives wrong 2 1 4) ∷ (bytes "ENG\t1\t0\r\n" gives wrong 2 1 8)
    ∷ ((239 ∷ 187 ∷ 191 ∷ bytes "ENG\t1\t0\n") gives wrong 2 1 1)
    ∷ []

figures_right :
    (map (λ (f : Figure). ended (read_sheet (text f))) sheet_figures ≡ map given sheet_figures)
    × (map (λ (f : Figure). ended (read_engines (text f))) engine_figures ≡ map given engine_figures)
unfolding ended sheet_figures engine_figures with_hull with_form with_seats with_fits fits rows
    read_sheet sheet_form read_engines engine_form digits_of digits_in feeds since_feed
    read_form read_parts read_rows kind_of read_line agreed read_numbers read_entry field_of number_of rest_of
figures_right = (refl, refl)

-- ---- each byte

-- the place of each byte of a text, from the given one on
unfoldable pub places : ℕ → ℕ → List ℕ → List (Verdict ℕ)
places line byte [] = []
places line byte (b ∷ t) =
    wrong 2 line byte ∷ elim (eqb b feed) [ true ↦ places (suc line) 1 t | false ↦ places line (suc byte) t ]

-- f of every number from k on, as many as there are bytes
unfoldable pub each : {A : Type 0} → (ℕ → A) → ℕ → List ℕ → List A
each f k [] = []
each f k (b ∷ t) = f k ∷ each f (suc k) t

engine_lines : List ℕ
engine_lines = bytes "ENG\t10000\t45000\nENG\t20000\t60000\n"

-- stopped before a byte, or spoilt there by a carriage return, the sheet is wrong at that byte
sheet_bytes_right :
    (each (λ k. ended (read_sheet (take k sample))) 0 sample ≡ places 1 1 sample)
    × (each (λ k. ended (read_sheet (set sample k 13))) 0 sample ≡ places 1 1 sample)
unfolding ended each places read_sheet sheet_form feeds since_feed
    read_form read_parts read_rows kind_of read_line agreed read_numbers read_entry field_of number_of rest_of
sheet_bytes_right = (refl, refl)

-- and so are engine lines spoilt; they may stop after a line
engine_bytes_right : each (λ k. ended (read_engines (set engine_lines k 13))) 0 engine_lines ≡ places 1 1 engine_lines
unfolding ended each places engine_lines read_engines engine_form feeds since_feed
    read_form read_parts read_rows kind_of read_line agreed read_numbers read_entry field_of number_of rest_of
engine_bytes_right = refl
