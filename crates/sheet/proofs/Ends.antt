-- Computed of each number of a sheet, by a table of its own: both ends of its limits are taken, and what is one beside
-- is refused with 3, in a text and among the numbers; in a text at the number's own line and byte.
use mathlib.Core.Path.{◌≡◌, refl}
use mathlib.Core.Bool.{Bool, true, false, not, ◌&&◌, ◌||◌, cond}
use mathlib.Core.List.{List, [], ◌∷◌, ◌++◌, map}
use Prim.Native.Nat.{ℕ, zero, suc, ◌+◌, ◌-◌, ◌*◌}
use lib.Dec.{eqb}
use lib.ListN.{set, take, drop, get_or}
use Rattle.text.specs.Field.{field_of, agreed}
use Rattle.text.specs.Number.{rest_of, number_of, digits_in, digits_of}
use Rattle.text.specs.Limit.{all_hold}
use Rattle.text.specs.Line.{read_entry, read_numbers, read_line}
use Rattle.text.specs.Place.{feeds, since_feed}
use Rattle.answers.specs.Answer.{Answer}
use Rattle.answers.specs.Answer.{Refused, RefusedAt, Done, Count, Plate}
use Rattle.sheet.specs.Sheet.{fits_ok, ok_on, sheet_ok, words_ok}
use Rattle.form.specs.Parts.{kind_of}
use Rattle.form.specs.Reading.{read_rows, read_parts, read_form}
use Rattle.sheet.specs.SheetText.{sheet_form, read_sheet}
use Rattle.sheet.specs.TextCalls.{read_answer}
use Rattle.sheet.proofs.LimitTable.{Row, alike, station, pieces, rows, fields, fit_lines, lines_of, text}
use Rattle.sheet.proofs.LimitTable.{Spot, spot, spots_on, fit_spots, spots_from, spots}

-- ---- what is taken, what is refused

is_done : Answer → Bool
is_done (Refused n) = false
is_done (RefusedAt n line byte) = false
is_done Done = true
is_done (Count n) = false
is_done (Plate a b) = false

is_outside_lem : Spot → Answer → Bool
is_outside_lem at (Refused n) = false
is_outside_lem at (RefusedAt n line byte) = eqb n 3 && (eqb line at.line && eqb byte at.byte)
is_outside_lem at Done = false
is_outside_lem at (Count n) = false
is_outside_lem at (Plate a b) = false

-- both ends: all numbers low; all high; and high by turns, so that a number held to the one before it would show. The
-- length is high but for the first. Of fittings the weight is at its end, or the count, or their product
lows : List ℕ
lows = map (λ (r : Row). r.low) rows

front : List Row
front = take 45 rows

highs : List ℕ
highs = map (λ (r : Row). r.high) front

fitted : ℕ → ℕ → ℕ → List ℕ
fitted zero w c = []
fitted (suc k) w c = w ∷ c ∷ fitted k w c

turns : Bool → List Row → List ℕ
turns high [] = []
turns high (r ∷ rs) = cond high r.high r.low ∷ turns (not high) rs

taken : List (List ℕ)
taken =
    lows ∷ (highs ++ fitted 24 500000 1) ∷ (highs ++ fitted 24 5050 99) ∷ (turns false front ++ fitted 24 250000 2)
    ∷ (set (turns true front) 1 6000 ++ fitted 24 1 99) ∷ (highs ++ fitted 24 0 0) ∷ []

takes : List ℕ → Bool
takes s = sheet_ok s && (words_ok (drop 1 s) && (eqb (get_or s 45 0) 0 || is_done (read_answer (read_sheet (text s)))))

-- one beside: a number too low or too high in a sheet of low ones
base : List ℕ
base = set lows 1 6000

-- the words alone do not have the hull number
outside : ℕ → List ℕ → Bool
outside place s = not (sheet_ok s) && (eqb place 0 || not (words_ok (drop 1 s)))

-- the tested persons' 0 is none among the numbers; no text has it
none_at : ℕ → ℕ → Bool
none_at place n = eqb 44 place && eqb n 0

refuses : ℕ → ℕ → Bool
refuses place n =
    let s = set base place n in
    (cond (none_at place n) (sheet_ok s) (outside place s))
    && is_outside_lem (get_or (spots s) place (spot 0 0)) (read_answer (read_sheet (text s)))

beside : Row → Bool
beside r = (eqb r.low 0 || refuses r.place (r.low - 1)) && refuses r.place (r.high + 1)

every : {A : Type 0} → (A → Bool) → List A → Bool
every f [] = true
every f (x ∷ xs) = f x && every f xs

-- a product one piece, one gram or one pair above its limit, on each fitting line: refused at the count
heavy : ℕ → ℕ → ℕ → Bool
heavy w c k =
    let s = set (set base (45 + 2 * k) w) (46 + 2 * k) c in
    outside 45 s && is_outside_lem (get_or (spots s) (46 + 2 * k) (spot 0 0)) (read_answer (read_sheet (text s)))

heavies : ℕ → Bool
heavies k = heavy 5051 99 k && (heavy 500000 2 k && (heavy 250001 2 k && heavy 500000 99 k))

limits_right : (every takes taken ≡ true) × ((every beside rows ≡ true) × (every heavies (0 ∷ 1 ∷ 12 ∷ 23 ∷ []) ≡ true))
unfolding every taken takes lows highs front fitted turns rows station alike pieces base beside refuses outside none_at
    heavy heavies is_done is_outside_lem fields fit_lines lines_of spots_on fit_spots spots_from digits_of digits_in
    all_hold ok_on fits_ok feeds since_feed
    read_sheet sheet_form read_form read_parts read_rows kind_of read_line agreed read_numbers read_entry field_of number_of rest_of
limits_right = (refl, (refl, refl))
