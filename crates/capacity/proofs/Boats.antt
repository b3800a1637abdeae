-- The boats of the plates' computed cases, and what a case says: the whole answer of one plate.
use mathlib.Core.Bool.{Bool, true, ◌&&◌}
use mathlib.Core.List.{List, [], ◌∷◌, ◌++◌}
use Prim.Native.Nat.{ℕ, zero, suc}
use lib.ListN.{take, set, replicate}
use Rattle.answers.specs.Answer.{Answer}
use Rattle.sheet.specs.Sheet.{words_ok}
use Rattle.capacity.specs.Kinds.{PlateKind, kind_a, kind_c, kind_u, plate_of}
use Rattle.capacity.specs.Samples.{words_to, words}

-- ---- a case

pub record Told : Type 0 where
  pub sheet : List ℕ
  pub kind : PlateKind
  pub must : Answer

abbrev pub on_a : List ℕ → Answer → Told
on_a s a = record { sheet = s; kind = kind_a; must = a }

-- by these engine rows, powers and weights
abbrev pub on_c : List ℕ → List ℕ → List ℕ → Answer → Told
on_c s ps ws a = record { sheet = s; kind = kind_c ps ws; must = a }

-- by one row that reaches every power, of an engine that weighs so much
abbrev pub weighing : ℕ → List ℕ → Answer → Told
weighing w s = on_c s (200000 ∷ []) (w ∷ [])

abbrev pub on_u : List ℕ → Answer → Told
on_u s a = record { sheet = s; kind = kind_u; must = a }

abbrev pub answered : Told → Answer
answered t = plate_of t.kind t.sheet

unfoldable pub all_within : List Told → Bool
all_within [] = true
all_within (t ∷ ts) = words_ok t.sheet && all_within ts

-- ---- boats

-- the base hull with another drive, declared power or masses
unfoldable pub massed : ℕ → ℕ → ℕ → ℕ → ℕ → List ℕ
massed outboard declared bare fuel machinery =
    words (4500 ∷ 4000 ∷ 1200 ∷ 500 ∷ 0 ∷ 0 ∷ []) (bare ∷ fuel ∷ machinery ∷ outboard ∷ declared ∷ 5 ∷ 0 ∷ 0 ∷ 0 ∷ [])

-- an outboard of this station T, reference length and bare boat
unfoldable pub stationed : List ℕ → ℕ → ℕ → List ℕ
stationed t reference bare =
    words_to (6000 ∷ reference ∷ 1200 ∷ 500 ∷ 0 ∷ 0 ∷ []) t (bare ∷ 0 ∷ 0 ∷ 1 ∷ 20000 ∷ 5 ∷ 0 ∷ 0 ∷ 0 ∷ [])

-- a launch of which no two stations, volumes or weights are alike, by its drive, declared power, bare boat and
-- machinery; its fittings, 14800, 16200, 22000 and 9400 g, stand on lines 1, 2, 13 and 24
unfoldable pub launch : ℕ → ℕ → ℕ → ℕ → List ℕ
launch outboard declared bare machinery =
    5400 ∷ 5250 ∷ 1200 ∷ 500 ∷ 0 ∷ 1
    ∷ 1180 ∷ 640 ∷ 566 ∷ 472 ∷ 360 ∷ 232 ∷ 70
    ∷ 1720 ∷ 742 ∷ 690 ∷ 612 ∷ 508 ∷ 372 ∷ 160
    ∷ 1880 ∷ 748 ∷ 706 ∷ 640 ∷ 548 ∷ 420 ∷ 214
    ∷ 1620 ∷ 650 ∷ 622 ∷ 574 ∷ 506 ∷ 402 ∷ 237
    ∷ 46000 ∷ 71000 ∷ 30500 ∷ bare ∷ 42000 ∷ machinery ∷ outboard ∷ declared ∷ 5 ∷ 0
    ∷ 3700 ∷ 4 ∷ 180 ∷ 90 ∷ (replicate 20 0 ++ (22000 ∷ 1 ∷ (replicate 20 0 ++ (4700 ∷ 2 ∷ []))))

-- 01's printed sheet with other pieces on fitting line 1, and with the same pieces on every line
unfoldable pub pieced : ℕ → ℕ → List ℕ
pieced weight count =
    words (4500 ∷ 4000 ∷ 1200 ∷ 500 ∷ 0 ∷ 1 ∷ [])
    (200000 ∷ 0 ∷ 0 ∷ 1 ∷ 20000 ∷ 5 ∷ 3 ∷ weight ∷ count ∷ [])

unfoldable pub alike : ℕ → ℕ → ℕ → List ℕ
alike zero weight count = []
alike (suc lines) weight count = weight ∷ count ∷ alike lines weight count

unfoldable pub laden : ℕ → ℕ → List ℕ
laden weight count = take 44 (pieced 0 0) ++ alike 24 weight count

-- the same boat with another transom, bare weight, drive, seats
unfoldable pub transom : ℕ → List ℕ → List ℕ
transom height s = set s 3 height

unfoldable pub bare_boat : ℕ → List ℕ → List ℕ
bare_boat bare s = set s 37 bare

unfoldable pub driven : ℕ → List ℕ → List ℕ
driven outboard s = set s 40 outboard

unfoldable pub seats : ℕ → ℕ → List ℕ → List ℕ
seats positions tested s = set (set s 42 positions) 43 tested
