-- 01, Sample sheets: the base hull, what a case changes of it and what it says. Starred cases 1 to 7, which are of a
-- sheet.
use Rattle.std.specs.Prelude.{Bool, false, ◌&&◌, cond, List, [], ◌∷◌, ◌++◌, ℕ, eqb, leb, ℤ, pos, negsuc, replicate}
use Rattle.answers.specs.Answer.{Answer}
use Rattle.answers.specs.Answer.{Refused, RefusedAt, Done, Count, Plate}
use Rattle.answers.specs.Refusals.{no_power}
use Rattle.sheet.specs.Sheet.{words_ok}
use Rattle.capacity.specs.Weights.{boat_m}
use Rattle.capacity.specs.PlateC.{marked_c}
use Rattle.capacity.specs.PlateA.{marked_a}
use Rattle.capacity.specs.Kinds.{kind_a, kind_c, plate_of}

-- ---- the base hull, and what a case changes of it

-- every B is 1000 and every depth 500
abbrev pub base_station : List ℕ
base_station = 1000 ∷ replicate 6 500

-- by FORM, the readings of station T, and what MASS, PWR, SEAT and fitting line 1, weight and count, have
abbrev pub words_to : List ℕ → List ℕ → List ℕ → List ℕ
words_to form t boat =
    form ++ (base_station ++ (base_station ++ (base_station ++ (t ++ (0 ∷ 0 ∷ 0 ∷ (boat ++ replicate 46 0))))))

unfoldable pub words : List ℕ → List ℕ → List ℕ
words form boat = words_to form base_station boat

-- a fitting as 01 has them, of one piece, or none
abbrev pub one_piece : ℕ → List ℕ
one_piece weight = weight ∷ cond (eqb weight 0) 0 1 ∷ []

unfoldable pub seated : ℕ → ℕ → ℕ → ℕ → List ℕ
seated tested declared bare fitting =
    words (4500 ∷ 4000 ∷ 1200 ∷ 500 ∷ 0 ∷ 1 ∷ []) (bare ∷ 0 ∷ 0 ∷ 1 ∷ declared ∷ 5 ∷ tested ∷ one_piece fitting)

unfoldable pub load : ℕ → ℕ → ℕ → List ℕ
load = seated 0

-- reference length 4000, or the length where that is less
unfoldable pub power : ℕ → ℕ → ℕ → ℕ → ℕ → List ℕ
power reference long wide flat remote =
    words (long ∷ reference ∷ wide ∷ 500 ∷ flat ∷ remote ∷ []) (200000 ∷ 0 ∷ 0 ∷ 1 ∷ 20000 ∷ 5 ∷ 0 ∷ 0 ∷ 0 ∷ [])

unfoldable pub inboard : List ℕ
inboard = words (4500 ∷ 4000 ∷ 1200 ∷ 500 ∷ 0 ∷ 0 ∷ []) (200000 ∷ 20000 ∷ 50000 ∷ 0 ∷ 20000 ∷ 5 ∷ 0 ∷ 0 ∷ 0 ∷ [])

-- ---- what a case says of its sheet

pub data Said : Type 0 where
  load_c load_a power_a_is refused_c refused_a : ℕ → Said

pub record Case : Type 0 where
  pub sheet : List ℕ
  pub said : Said

unfoldable pub marks : ℤ → ℕ → Bool
marks (pos m) n = eqb m n
marks (negsuc m) n = false

-- the marked load is that of the plate's answer, where the plate is not refused for another reason
unfoldable pub agrees : Answer → ℕ → Bool
agrees (Refused m) n = leb no_power m
agrees (RefusedAt m line byte) n = false
agrees Done n = false
agrees (Count m) n = false
agrees (Plate a b) n = eqb a n

unfoldable pub refuses : Answer → ℕ → Bool
refuses (Refused m) n = eqb m n
refuses (RefusedAt m line byte) n = false
refuses Done n = false
refuses (Count m) n = false
refuses (Plate a b) n = false

unfoldable pub second_is : Answer → ℕ → Bool
second_is (Refused m) n = false
second_is (RefusedAt m line byte) n = false
second_is Done n = false
second_is (Count m) n = false
second_is (Plate a b) n = eqb b n

-- with rows that reach every declared power
unfoldable pub answer_c : List ℕ → Answer
answer_c s = plate_of (kind_c (200000 ∷ []) (60000 ∷ [])) s

unfoldable pub holds_of : List ℕ → Said → Bool
holds_of s (load_c n) = marks (marked_c (boat_m s) s) n && agrees (answer_c s) n
holds_of s (load_a n) = marks (marked_a (boat_m s) s) n && agrees (plate_of kind_a s) n
holds_of s (power_a_is n) = second_is (plate_of kind_a s) n
holds_of s (refused_c n) = refuses (answer_c s) n
holds_of s (refused_a n) = refuses (plate_of kind_a s) n

-- a case stands: its sheet is within the limits, and what it says holds
unfoldable pub stands : Case → Bool
stands c = words_ok c.sheet && holds_of c.sheet c.said

abbrev pub case : List ℕ → Said → Case
case s x = record { sheet = s; said = x }

-- the starred cases but for 9, which is of a register
unfoldable pub cases : List Case
cases =
    -- 1
    case (load 20000 200000 0) (load_c 326) ∷ case (load 20000 200000 0) (load_a 327)
    -- 2
    ∷ case (load 1500 200000 0) (load_c 490) ∷ case (load 1501 200000 0) (load_c 326)
    -- 3
    ∷ case (load 20000 200000 3333) (load_c 326) ∷ case (load 20000 200000 3334) (load_c 325)
    ∷ case (load 20000 200000 3334) (load_a 326)
    -- 4
    ∷ case (load 20000 1828333 0) (load_c 1) ∷ case (load 20000 1828334 0) (refused_c 12)
    ∷ case (load 20000 1828334 0) (load_a 1)
    -- 5
    ∷ case inboard (load_a 257) ∷ case inboard (load_c 312)
    -- 6
    ∷ case (power 2250 2250 1000 0 0) (power_a_is 1500) ∷ case (power 2250 2251 1000 0 0) (power_a_is 3000)
    ∷ case (power 2250 2250 1000 1 0) (refused_a 13)
    -- 7
    ∷ case (power 4000 4100 1250 0 1) (power_a_is 15000)
    ∷ []
