-- Worked texts of engine rows, computed: the places where a reader slips, and the rows of docs/ENGINES.md.
use mathlib.Core.Path.{◌≡◌, refl}
use mathlib.Core.List.{List, [], ◌∷◌, ◌++◌, map}
use Prim.Native.Nat.{ℕ, suc}
use lib.ListN.{replicate}
use Rattle.text.specs.Quoted.{bytes}
use Rattle.text.specs.Field.{field_of, agreed}
use Rattle.text.specs.Number.{rest_of, number_of, digits_in, digits_of}
use Rattle.text.specs.Line.{read_entry, read_numbers, read_line, numbers_text}
use Rattle.text.specs.Place.{feeds, since_feed}
use Rattle.form.specs.Parts.{kind_of}
use Rattle.form.specs.Outcome.{right, wrong}
use Rattle.form.specs.Reading.{read_rows, read_parts, read_form}
use Rattle.form.specs.Writing.{rows_text, parts_text}
use Rattle.sheet.specs.EngineText.{engine_form, engine_rows, read_engines, engines_text}
use Rattle.sheet.specs.TextCalls.{columns_into}
use Rattle.sheet.proofs.Examples.{ended, taken}

unfoldable pub rows : ℕ → List ℕ → List ℕ
rows n [] = []
rows n (k ∷ ks) = bytes "ENG\t" ++ (digits_of n ++ (bytes "\t0\n" ++ rows (suc n) ks))

engine_texts : List (List ℕ)
engine_texts =
    -- none, one, one at the other end of both limits, one without its line feed, power 0, not rising, a power and a
    -- weight too high, another line
    [] ∷ bytes "ENG\t1\t0\n" ∷ bytes "ENG\t200000\t1000000\n" ∷ bytes "ENG\t1\t0"
    ∷ bytes "ENG\t0\t0\n" ∷ bytes "ENG\t5\t0\nENG\t5\t0\n" ∷ bytes "ENG\t200001\t0\n" ∷ bytes "ENG\t1\t1000001\n"
    ∷ bytes "ENG\t1\t0\nEND\n"
    -- forty, and a 41st at its tag
    ∷ rows 1 (replicate 40 0) ∷ rows 1 (replicate 41 0)
    -- 4,096 bytes are read by their fields, 4,097 are not
    ∷ replicate 4096 69 ∷ replicate 4097 69
    ∷ []

engines_right :
    map (λ (t : List ℕ). ended (read_engines t)) engine_texts
    ≡ wrong 2 1 1 ∷ taken ∷ taken ∷ wrong 2 1 8
    ∷ wrong 3 1 5 ∷ wrong 3 2 5 ∷ wrong 3 1 5 ∷ wrong 3 1 7
    ∷ wrong 2 2 3
    ∷ taken ∷ wrong 2 41 1
    ∷ wrong 2 1 2 ∷ wrong 2 0 0
    ∷ []
unfolding ended engine_texts rows read_engines engine_form digits_of digits_in feeds since_feed
    read_form read_parts read_rows kind_of read_line agreed read_numbers read_entry field_of number_of rest_of
engines_right = refl

-- the totals of Table 4-2, as examples/engines.txt has them
table : List ℕ
table =
    bytes "ENG\t1500\t15000\nENG\t2900\t20000\nENG\t5100\t43000\nENG\t8100\t84000\nENG\t17100\t106000\n"
    ++ (bytes "ENG\t26000\t159000\nENG\t48400\t208000\nENG\t70700\t285000\nENG\t78200\t294000\n"
    ++ bytes "ENG\t108000\t328000\nENG\t145300\t346000\nENG\t156500\t391000\nENG\t200000\t415000\n")

powers : List ℕ
powers =
    1500 ∷ 2900 ∷ 5100 ∷ 8100 ∷ 17100 ∷ 26000 ∷ 48400 ∷ 70700 ∷ 78200 ∷ 108000 ∷ 145300 ∷ 156500 ∷ 200000 ∷ []

weights : List ℕ
weights =
    15000 ∷ 20000 ∷ 43000 ∷ 84000 ∷ 106000 ∷ 159000 ∷ 208000 ∷ 285000 ∷ 294000 ∷ 328000 ∷ 346000 ∷ 391000 ∷ 415000 ∷ []

table_reads : read_engines table ≡ right (engine_rows powers weights)
unfolding table powers weights engine_rows read_engines engine_form
    read_form read_parts read_rows kind_of read_line agreed read_numbers read_entry field_of number_of rest_of
table_reads = refl

table_written : engines_text powers weights ≡ table
unfolding powers weights table engines_text engine_form engine_rows parts_text rows_text kind_of numbers_text digits_of digits_in
table_written = refl

-- the columns of two rows at the start of longer slices
columns_right :
    columns_into (read_engines (bytes "ENG\t1\t5\nENG\t2\t6\n")) (7 ∷ 7 ∷ 7 ∷ []) (8 ∷ 8 ∷ 8 ∷ [])
    ≡ (1 ∷ 2 ∷ 7 ∷ [], 5 ∷ 6 ∷ 8 ∷ [])
unfolding read_engines engine_form
    read_form read_parts read_rows kind_of read_line agreed read_numbers read_entry field_of number_of rest_of
columns_right = refl
