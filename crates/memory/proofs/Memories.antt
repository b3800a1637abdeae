-- Memories laid out by the table of docs/REGISTER.md, apart from `Layout`: a full one at every end of its limits, and
-- changes of it that are one beside. Computed: which of them are well formed, and where each thing stands.
use mathlib.Core.Path.{◌≡◌, refl}
use mathlib.Core.Bool.{Bool, true, false}
use mathlib.Core.List.{List, [], ◌∷◌, ◌++◌, map}
use Prim.Native.Nat.{ℕ, zero, suc, ◌+◌, ◌*◌}
use lib.ListN.{get_or, set, take, drop, replicate}
use Rattle.text.specs.Limit.{all_hold}
use Rattle.text.proofs.Examples.{up_from}
use Rattle.sheet.specs.Sheet.{fits_ok, ok_on}
use Rattle.capacity.specs.Weights.{added_up, boat_m}
use Rattle.memory.specs.Layout.{register_words, fitting, fitting_at, hull_count, edit, hull_weight, hull_sheet}
use Rattle.memory.specs.Layout.{held, draft_hull, opening, draft_weight, draft_sheet}
use Rattle.memory.specs.Formed.{each, hull_ok, draft_ok, formed}
use Rattle.memory.specs.Updates.{fitted}

-- ---- a full register

abbrev station : List ℕ
station = 1000 ∷ replicate 6 500

-- 01's printed sheet, as the register holds it
unfoldable pub sheet : List ℕ
sheet =
    4500 ∷ 4000 ∷ 1200 ∷ 500 ∷ 0 ∷ 1
    ∷ (station ++ (station ++ (station ++ (station
    ++ (0 ∷ 0 ∷ 0 ∷ 200000 ∷ 0 ∷ 0 ∷ 1 ∷ 20000 ∷ 5 ∷ 3 ∷ 3334 ∷ 1 ∷ replicate 46 0)))))

-- what its boat weighs
abbrev weight : ℕ
weight = 203334

-- so many hulls at an edit number
unfoldable pub hulls : ℕ → ℕ → List ℕ
hulls zero number = []
hulls (suc n) number = number ∷ weight ∷ (sheet ++ hulls n number)

unfoldable pub draft : ℕ → ℕ → List ℕ
draft hull number = 1 ∷ hull ∷ number ∷ weight ∷ sheet

-- so many desks that hold no draft; what stands in their slots is free
unfoldable pub idle : ℕ → List ℕ
idle zero = []
idle (suc n) = 0 ∷ (replicate 95 99 ++ idle n)

-- sixteen hulls, of which the last is at edit number 65535; desk 7 holds a draft of it as it stands
unfoldable pub full : List ℕ
full = 16 ∷ (hulls 15 0 ++ (hulls 1 65535 ++ (idle 7 ++ draft 15 65535)))

-- ---- well formed or not

formed_right :
    map formed
    -- the size: none, one word less, one more
    (full ∷ [] ∷ take 2272 full ∷ (full ++ (0 ∷ []))
    -- the count: too high; so low that a draft is of a hull that is not entered
    ∷ set full 0 17 ∷ set full 0 15
    -- hull 15's edit number, desk 7's mark
    ∷ set full 1411 65536 ∷ set full 2177 2
    -- the slots of hulls not entered are free
    ∷ (0 ∷ (replicate 1504 99 ++ idle 8))
    ∷ [])
    ≡ true ∷ false ∷ false ∷ false ∷ false ∷ false ∷ false ∷ false ∷ true ∷ []
unfolding full sheet hulls draft idle formed each hull_ok draft_ok all_hold ok_on fits_ok boat_m added_up
formed_right = refl

-- a hull: its edit number, the first word of its sheet
hulls_right :
    map (λ (m : List ℕ). hull_ok m 15)
    (full ∷ set full 1411 65534 ∷ set full 1411 65536 ∷ set full 1413 1999 ∷ [])
    ≡ true ∷ true ∷ false ∷ false ∷ []
unfolding full sheet hulls draft idle hull_ok all_hold ok_on fits_ok boat_m added_up
hulls_right = refl

-- a desk: its mark, and of its draft the hull, the opening number, the first word of its sheet
drafts_right :
    map (λ (m : List ℕ). draft_ok m 7)
    (full ∷ set full 2177 0 ∷ set full 2177 2 ∷ set full 2178 14 ∷ set full 2178 16
    ∷ set full 2179 65534 ∷ set full 2179 65536 ∷ set full 2181 1999 ∷ [])
    ≡ true ∷ true ∷ false ∷ false ∷ false ∷ true ∷ false ∷ false ∷ []
unfolding full sheet hulls draft idle draft_ok all_hold ok_on fits_ok boat_m added_up
drafts_right = refl

-- 02 (vii): the weight beside hull 15's sheet, and beside desk 7's draft: right, one beside, none, the bare boat's
weights_right :
    (map (λ (w : ℕ). hull_ok (set full 1412 w) 15) (203334 ∷ 203333 ∷ 203335 ∷ 0 ∷ 200000 ∷ [])
    ≡ true ∷ false ∷ false ∷ false ∷ false ∷ [])
    × (map (λ (w : ℕ). draft_ok (set full 2180 w) 7) (203334 ∷ 203333 ∷ 203335 ∷ 0 ∷ 200000 ∷ [])
    ≡ true ∷ false ∷ false ∷ false ∷ false ∷ [])
unfolding full sheet hulls draft idle hull_ok draft_ok all_hold ok_on fits_ok boat_m added_up
weights_right = (refl, refl)

-- 02 (vi): two words that stand on a fitting line
fits : List (ℕ × ℕ)
fits =
    -- neither; a weight without a count, a count without a weight
    (0, 0) ∷ (3334, 0) ∷ (0, 1)
    -- the most pieces, and one more; the most that one weighs, and a gram more
    ∷ (1, 99) ∷ (1, 100) ∷ (500000, 1) ∷ (500001, 1)
    -- the most that several weigh, and a gram more
    ∷ (250000, 2) ∷ (166667, 3) ∷ []

fits_right : List Bool
fits_right = true ∷ false ∷ false ∷ true ∷ false ∷ true ∷ false ∷ true ∷ false ∷ []

-- the full register with two words changed, and the weight beside them, which is so much without them
with : ℕ → ℕ → ℕ → ℕ × ℕ → List ℕ
with beside without at x = set (set (set full at x.0) (suc at) x.1) beside (without + x.0 * x.1)

-- on the first line and the last of hull 15, and of desk 7's draft
lines_right :
    (map (λ (x : ℕ × ℕ). hull_ok (with 1412 200000 1457 x) 15) fits ≡ fits_right)
    × (map (λ (x : ℕ × ℕ). hull_ok (with 1412 weight 1503 x) 15) fits ≡ fits_right)
    × (map (λ (x : ℕ × ℕ). draft_ok (with 2180 200000 2225 x) 7) fits ≡ fits_right)
    × (map (λ (x : ℕ × ℕ). draft_ok (with 2180 weight 2271 x) 7) fits ≡ fits_right)
unfolding fits fits_right with full sheet hulls draft idle hull_ok draft_ok all_hold ok_on fits_ok boat_m added_up
lines_right = (refl, refl, refl, refl)

-- ---- where things stand

abbrev m : List ℕ
m = up_from 2273 0

-- the words that each getter finds in a memory of 0, 1, 2, .., and in one of none
places_right :
    (register_words ∷ hull_count m ∷ edit m 0 ∷ hull_weight m 0 ∷ edit m 15 ∷ hull_weight m 15 ∷ []
    ≡ 2273 ∷ 0 ∷ 1 ∷ 2 ∷ 1411 ∷ 1412 ∷ [])
    × (held m 0 ∷ draft_hull m 0 ∷ opening m 0 ∷ draft_weight m 0 ∷ [] ≡ up_from 4 1505)
    × (held m 7 ∷ draft_hull m 7 ∷ opening m 7 ∷ draft_weight m 7 ∷ [] ≡ up_from 4 2177)
    × (hull_sheet m 0 ∷ hull_sheet m 15 ∷ [] ≡ up_from 92 3 ∷ up_from 92 1413 ∷ [])
    × (draft_sheet m 0 ∷ draft_sheet m 7 ∷ [] ≡ up_from 92 1509 ∷ up_from 92 2181 ∷ [])
    × (hull_count [] ∷ edit [] 0 ∷ hull_weight [] 0 ∷ held [] 0 ∷ draft_hull [] 0 ∷ opening [] 0 ∷ draft_weight [] 0 ∷ []
    ≡ replicate 7 0)
    × (fitting_at 0 1 ∷ fitting_at 0 24 ∷ fitting_at 7 1 ∷ fitting_at 7 24 ∷ [] ≡ 1553 ∷ 1599 ∷ 2225 ∷ 2271 ∷ [])
    × (fitting m 0 1 ∷ fitting m 7 24 ∷ fitting [] 0 1 ∷ [] ≡ 1553 ∷ 2271 ∷ 0 ∷ [])
unfolding up_from
places_right = (refl, refl, refl, refl, refl, refl, refl, refl)

-- the weight and the words about fitting lines 1 and 2 of desk 7's draft: line 2 set to three pieces, line 1 emptied
-- while line 2 is empty and while it is not, and while another weight is held, which moves by the same difference
fitted_right :
    map (λ (o : List ℕ). get_or o 2180 0 ∷ take 6 (drop 2224 o))
    (full ∷ fitted full 7 2 1111 3 ∷ fitted full 7 1 0 0 ∷ fitted (fitted full 7 2 1111 3) 7 1 0 0
    ∷ fitted (set full 2180 5000) 7 1 0 0 ∷ [])
    ≡ (203334 ∷ 3 ∷ 3334 ∷ 1 ∷ 0 ∷ 0 ∷ 0 ∷ []) ∷ (206667 ∷ 3 ∷ 3334 ∷ 1 ∷ 1111 ∷ 3 ∷ 0 ∷ [])
    ∷ (200000 ∷ 3 ∷ 0 ∷ 0 ∷ 0 ∷ 0 ∷ 0 ∷ []) ∷ (203333 ∷ 3 ∷ 0 ∷ 0 ∷ 1111 ∷ 3 ∷ 0 ∷ [])
    ∷ (1666 ∷ 3 ∷ 0 ∷ 0 ∷ 0 ∷ 0 ∷ 0 ∷ []) ∷ []
unfolding full sheet hulls draft idle fitted boat_m added_up
fitted_right = refl
