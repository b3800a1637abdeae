-- 01's table of limits once more, written apart from `lines`: of each number of a sheet its place among the numbers and
-- the two ends of its limits; the sheet's text by tags of its own, and in it the line and the byte of each number.
use mathlib.Core.List.{List, [], ◌∷◌, ◌++◌}
use Prim.Native.Nat.{ℕ, zero, suc, ◌+◌}
use Prim.Native.String.{String}
use lib.ListN.{length, take, drop}
use Rattle.text.specs.Quoted.{bytes}
use Rattle.text.specs.Number.{digits_of}

-- ---- the table: place, low, high

pub record Row : Type 0 where
  pub place : ℕ
  pub low : ℕ
  pub high : ℕ

abbrev row : ℕ → ℕ → ℕ → Row
row place low high = record { place = place; low = low; high = high }

-- so many numbers from a place on, of one limit
unfoldable pub alike : ℕ → ℕ → ℕ → ℕ → List Row
alike zero place low high = []
alike (suc n) place low high = row place low high ∷ alike n (suc place) low high

-- B, then q r s t u v
unfoldable pub station : ℕ → List Row
station place = row place 0 4000 ∷ alike 6 (suc place) 0 2500

-- weight and count of so many fitting lines, from a place on
unfoldable pub pieces : ℕ → ℕ → List Row
pieces zero place = []
pieces (suc n) place = row place 1 500000 ∷ row (1 + place) 1 99 ∷ pieces n (2 + place)

unfoldable pub rows : List Row
rows =
    -- HULL: hull number
    row 0 0 15
    -- FORM: length, reference length, transom width, transom height, flat bottom, remote steering
    ∷ row 1 2000 6000 ∷ row 2 2000 6000 ∷ row 3 500 3000 ∷ row 4 200 900 ∷ row 5 0 1 ∷ row 6 0 1
    -- STN: Q, R, S, T
    ∷ (station 7 ++ (station 14 ++ (station 21 ++ (station 28
    -- VOL: aft structure, motor well, flooding chambers
    ++ (row 35 0 5000000 ∷ row 36 0 5000000 ∷ row 37 0 5000000
    -- MASS: bare boat, permanent tanks with fuel, installed machinery
    ∷ row 38 1 2000000 ∷ row 39 0 500000 ∷ row 40 0 500000
    -- PWR: outboard or not, declared power
    ∷ row 41 0 1 ∷ row 42 0 200000
    -- SEAT: designated positions, tested persons
    ∷ row 43 1 24 ∷ row 44 1 24
    -- FIT: weight and count on lines 1 to 24
    ∷ pieces 24 45)))))

-- ---- a sheet's text, by tags of its own

-- numbers in digits, tabs between them and a line feed after them
unfoldable pub fields : List ℕ → List ℕ
fields [] = []
fields (n ∷ []) = digits_of n ++ bytes "\n"
fields (n ∷ m ∷ ns) = digits_of n ++ (bytes "\t" ++ fields (m ∷ ns))

-- a line: its tag, and how many numbers there are on it
pub record Tagged : Type 0 where
  pub tag : String
  pub count : ℕ

abbrev tagged : String → ℕ → Tagged
tagged tag count = record { tag = tag; count = count }

abbrev tags : List Tagged
tags =
    tagged "HULL\t" 1 ∷ tagged "FORM\t" 6
    ∷ tagged "STN\tQ\t" 7 ∷ tagged "STN\tR\t" 7 ∷ tagged "STN\tS\t" 7 ∷ tagged "STN\tT\t" 7
    ∷ tagged "VOL\t" 3 ∷ tagged "MASS\t" 3 ∷ tagged "PWR\t" 2 ∷ tagged "SEAT\t" 2 ∷ []

-- every fitting's line, then END
unfoldable pub fit_lines : ℕ → List ℕ → List ℕ
fit_lines k [] = bytes "END\n"
fit_lines k (w ∷ []) = []
fit_lines k (w ∷ c ∷ s) = bytes "FIT\t" ++ (fields (k ∷ w ∷ c ∷ []) ++ fit_lines (suc k) s)

unfoldable pub lines_of : List Tagged → List ℕ → List ℕ
lines_of [] s = fit_lines 1 s
lines_of (l ∷ ls) s = bytes l.tag ++ (fields (take l.count s) ++ lines_of ls (drop l.count s))

abbrev pub text : List ℕ → List ℕ
text s = lines_of tags s

-- ---- line and byte of each number in that text

pub record Spot : Type 0 where
  pub line : ℕ
  pub byte : ℕ

abbrev pub spot : ℕ → ℕ → Spot
spot line byte = record { line = line; byte = byte }

-- numbers on one line, the first at the byte
unfoldable pub spots_on : ℕ → ℕ → List ℕ → List Spot
spots_on line byte [] = []
spots_on line byte (n ∷ ns) = spot line byte ∷ spots_on line (byte + length (digits_of n) + 1) ns

-- a fitting's weight, after its line number, and its count
unfoldable pub fit_spots : ℕ → ℕ → List ℕ → List Spot
fit_spots line k [] = []
fit_spots line k (w ∷ []) = []
fit_spots line k (w ∷ c ∷ s) =
    spot line (6 + length (digits_of k))
    ∷ spot line (7 + length (digits_of k) + length (digits_of w))
    ∷ fit_spots (suc line) (suc k) s

unfoldable pub spots_from : ℕ → List Tagged → List ℕ → List Spot
spots_from line [] s = fit_spots line 1 s
spots_from line (l ∷ ls) s =
    spots_on line (1 + length (bytes l.tag)) (take l.count s) ++ spots_from (suc line) ls (drop l.count s)

abbrev pub spots : List ℕ → List Spot
spots s = spots_from 1 tags s
