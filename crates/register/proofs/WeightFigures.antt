-- 02 (vii), the boat's weight, computed: as each call leaves it beside a hull's sheet and beside a draft's; and a
-- weight that is not its sheet's, which no call passes over.
use mathlib.Core.Path.{◌≡◌, refl}
use mathlib.Core.List.{List, [], ◌∷◌, ◌++◌, map}
use Prim.Native.Nat.{ℕ}
use lib.ListN.{get_or, set, replicate}
use Rattle.text.specs.Limit.{all_hold}
use Rattle.answers.specs.Answer.{Answer}
use Rattle.answers.specs.Answer.{Refused, Done, Count, Plate}
use Rattle.sheet.specs.Sheet.{fits_ok, ok_on}
use Rattle.capacity.specs.Volume.{station_product, volume_n, net_z}
use Rattle.capacity.specs.Weights.{added_up, boat_m}
use Rattle.capacity.specs.PlateC.{exact_x, row_for}
use Rattle.capacity.specs.PlateA.{inboard_x, load_x, marked_a, formula_watts, power_a, plate_a}
use Rattle.capacity.specs.Kinds.{kind_a, kind_c, kind_u}
use Rattle.memory.specs.Formed.{each, hull_ok, draft_ok, formed}
use Rattle.memory.specs.Updates.{fresh_words, entered, opened, fitted, replaced, dropped, saved}
use Rattle.register.specs.Refusals.{hull_refusal, open_refusal, desk_refusal, room_refusal}
use Rattle.register.specs.Calls.{set_fitting, replace, try_plate, plate, weigh, write}
use Rattle.register.specs.Calls.{Call, new_hull, open_hull, work, save, drop_draft, ask, fresh_step, step}

-- ---- boats

station : List ℕ
station = 1000 ∷ replicate 6 500

-- 01's hull with another bare boat, and with what its fitting lines have
boat : ℕ → List ℕ → List ℕ
boat bare fits =
    4500 ∷ 4000 ∷ 1200 ∷ 500 ∷ 0 ∷ 1
    ∷ (station ++ (station ++ (station ++ (station ++ (0 ∷ 0 ∷ 0 ∷ bare ∷ 0 ∷ 0 ∷ 1 ∷ 20000 ∷ 5 ∷ 3 ∷ fits)))))

-- hull 0 of a register, with a weight beside it and a sheet, and no draft; and with desk 0's draft of it too
enters : ℕ → List ℕ → List ℕ
enters w s = 1 ∷ 0 ∷ w ∷ (s ++ replicate 2178 0)

opens : ℕ → ℕ → List ℕ → List ℕ
opens w v s = 1 ∷ 0 ∷ w ∷ (s ++ (replicate 1410 0 ++ (1 ∷ 0 ∷ 0 ∷ v ∷ (s ++ replicate 672 0))))

light : List ℕ
light = boat 200000 (replicate 48 0)

base : List ℕ
base = enters 200000 light

-- so new hull and open leave it
laid_right : (entered fresh_words light ≡ base) × (opened base 0 0 ≡ opens 200000 200000 light)
unfolding fresh_words entered opened base enters opens light boat station boat_m added_up
laid_right = (refl, refl)

-- every line at its most
six : List ℕ
six = 500000 ∷ 1 ∷ 250000 ∷ 2 ∷ 10000 ∷ 50 ∷ []

most : List ℕ
most = six ++ (six ++ (six ++ (six ++ (six ++ (six ++ (six ++ six))))))

-- ---- the weights beside hull 0 and beside desk 0's draft, after each call

seen : List ℕ → List Call → List (List ℕ)
seen m [] = []
seen m (c ∷ cs) = let o = (step m c).memory in (get_or o 2 0 ∷ get_or o 1508 0 ∷ []) ∷ seen o cs

abbrev setting : ℕ → ℕ → ℕ → Call
setting line weight count = work 0 (set_fitting line weight count)

weights_follow :
    seen base
    (open_hull 0 0 ∷ setting 1 5050 99 ∷ setting 1 2 3 ∷ setting 1 0 0 ∷ setting 24 500000 1 ∷ setting 24 500001 1
    ∷ save 0 ∷ open_hull 0 0 ∷ setting 24 1 1 ∷ drop_draft 0 ∷ open_hull 0 0 ∷ [])
    ≡ (200000 ∷ 200000 ∷ []) ∷ (200000 ∷ 699950 ∷ []) ∷ (200000 ∷ 200006 ∷ []) ∷ (200000 ∷ 200000 ∷ [])
    ∷ (200000 ∷ 700000 ∷ []) ∷ (200000 ∷ 700000 ∷ []) ∷ (700000 ∷ 700000 ∷ []) ∷ (700000 ∷ 700000 ∷ [])
    ∷ (700000 ∷ 200001 ∷ []) ∷ (700000 ∷ 200001 ∷ []) ∷ (700000 ∷ 700000 ∷ []) ∷ []
unfolding seen base enters light boat station opened fitted replaced dropped saved formed each hull_ok draft_ok
    open_refusal desk_refusal all_hold ok_on fits_ok boat_m added_up
weights_follow = refl

-- a sheet in the draft's place: a lighter one, a heavier one; and each saved
weights_replaced :
    map (λ (s : List ℕ). seen (replaced (opens 200000 200000 light) 0 s) (drop_draft 1 ∷ save 0 ∷ []))
    (boat 1 (replicate 46 0 ++ (1 ∷ 1 ∷ [])) ∷ boat 2000000 most ∷ [])
    ≡ ((200000 ∷ 2 ∷ []) ∷ (2 ∷ 2 ∷ []) ∷ []) ∷ ((200000 ∷ 14000000 ∷ []) ∷ (14000000 ∷ 14000000 ∷ []) ∷ []) ∷ []
unfolding seen opens light boat station six most replaced dropped saved formed each hull_ok draft_ok
    desk_refusal all_hold ok_on fits_ok boat_m added_up
weights_replaced = refl

-- ---- asked

-- of a hull, from the lightest that there is to the heaviest
asked_right :
    map (λ (m : List ℕ). (step m (ask 0 weigh)).answer)
    (enters 1 (boat 1 (replicate 48 0)) ∷ base ∷ enters 699950 (boat 200000 (5050 ∷ 99 ∷ replicate 46 0))
    ∷ enters 13999999 (boat 1999999 most) ∷ enters 14000000 (boat 2000000 most) ∷ [])
    ≡ Count 1 ∷ Count 200000 ∷ Count 699950 ∷ Count 13999999 ∷ Count 14000000 ∷ []
unfolding base enters light boat station six most formed each hull_ok draft_ok hull_refusal all_hold ok_on fits_ok boat_m
    added_up
asked_right = refl

-- desk 1's draft keeps the weight that it was opened with, while desk 0 saves a heavier boat
both : List ℕ
both = saved (fitted (opened (opens 200000 200000 light) 1 0) 0 1 5050 99) 0

opened_then :
    map (λ (c : Call). (step both c).answer) (ask 0 weigh ∷ work 1 (try_plate kind_a) ∷ ask 0 (plate kind_a) ∷ [])
    ≡ Count 699950 ∷ Plate 327 20000 ∷ Plate 227 20000 ∷ []
unfolding both opens light boat station opened fitted dropped saved formed each hull_ok draft_ok hull_refusal
    desk_refusal all_hold ok_on fits_ok station_product volume_n net_z added_up boat_m exact_x inboard_x load_x marked_a row_for
    formula_watts power_a plate_a
opened_then = refl

-- ---- a weight that is not its sheet's

-- every call there is, on what is there
calls : List Call
calls =
    new_hull [] ∷ open_hull 0 0 ∷ setting 1 1 1 ∷ work 0 (replace []) ∷ work 0 (try_plate kind_a)
    ∷ work 0 (try_plate (kind_c [] [])) ∷ work 0 (try_plate kind_u) ∷ save 0 ∷ drop_draft 0 ∷ ask 0 (plate kind_a)
    ∷ ask 0 (plate (kind_c [] [])) ∷ ask 0 (plate kind_u) ∷ ask 0 weigh ∷ ask 0 (write []) ∷ []

abbrev answers : List ℕ → List Answer
answers m = map (λ (c : Call). (step m c).answer) calls

-- beside the hull and beside the draft, a gram up and down; fresh start asks for none
weights_judged :
    (answers (opens 200001 200000 light) ≡ replicate 14 (Refused 1))
    × (answers (opens 199999 200000 light) ≡ replicate 14 (Refused 1))
    × (answers (opens 200000 200001 light) ≡ replicate 14 (Refused 1))
    × (answers (opens 200000 199999 light) ≡ replicate 14 (Refused 1))
    × ((fresh_step (opens 200001 200000 light)).answer ≡ Done)
unfolding opens light boat station calls formed each hull_ok draft_ok room_refusal open_refusal desk_refusal hull_refusal
    all_hold ok_on fits_ok boat_m added_up
weights_judged = (refl, refl, refl, refl, refl)

-- and where no hull and no draft stands it is free
weights_free : (step (set (set base 96 1) 1508 1) (ask 0 weigh)).answer ≡ Count 200000
unfolding base enters light boat station formed each hull_ok draft_ok hull_refusal all_hold ok_on fits_ok boat_m added_up
weights_free = refl
