-- The refusals by their numbers, and each answer figure by figure, computed: no name and no figure can move unseen.
use mathlib.Core.Path.{◌≡◌, refl}
use mathlib.Core.List.{[], ◌∷◌, map}
use Prim.Native.Nat.{ℕ}
use Rattle.answers.specs.Answer.{Refused, RefusedAt, Done, Count, Plate}
use Rattle.answers.specs.Refusals.{bad_memory, broken_line, outside_limits, full, no_hull, no_desk, no_draft}
use Rattle.answers.specs.Refusals.{edited_since, edits_spent, bad_rows, no_row, no_load, no_power, untested, no_persons}
use Rattle.answers.specs.Refusals.{no_room, empty_line}
use Rattle.answers.specs.Values.{faced, is_refusal, is_listed, is_placed}
use mathlib.Core.Bool.{true, false}

-- in 01's order
refusals_right :
    bad_memory ∷ broken_line ∷ outside_limits ∷ full ∷ no_hull ∷ no_desk ∷ no_draft ∷ edited_since ∷ edits_spent
    ∷ bad_rows ∷ no_row ∷ no_load ∷ no_power ∷ untested ∷ no_persons ∷ no_room ∷ empty_line ∷ []
    ≡ 1 ∷ 2 ∷ 3 ∷ 4 ∷ 5 ∷ 6 ∷ 7 ∷ 8 ∷ 9 ∷ 10 ∷ 11 ∷ 12 ∷ 13 ∷ 14 ∷ 15 ∷ 16 ∷ 17 ∷ []
refusals_right = refl

-- the list ends at both ends
listed_right :
    map is_listed (
    Refused 0 ∷ Refused 1 ∷ Refused 17 ∷ Refused 18
    ∷ RefusedAt 0 4 5 ∷ RefusedAt 1 4 5 ∷ RefusedAt 17 4 5 ∷ RefusedAt 18 4 5
    ∷ Done ∷ Count 0 ∷ Plate 0 0 ∷ [])
    ≡ false ∷ true ∷ true ∷ false ∷ false ∷ true ∷ true ∷ false ∷ true ∷ true ∷ true ∷ []
listed_right = refl

-- of the five cases one has a place
placed_right :
    map is_placed (Refused 3 ∷ RefusedAt 2 0 0 ∷ Done ∷ Count 718 ∷ Plate 326 20000 ∷ [])
    ≡ false ∷ true ∷ false ∷ false ∷ false ∷ []
placed_right = refl

answers_right :
    map faced (Refused 12 ∷ RefusedAt 2 35 1 ∷ RefusedAt 3 10 6 ∷ Done ∷ Count 718 ∷ Plate 326 20000 ∷ [])
    ≡ record { refusal = 12; first = 0; second = 0; third = 0 }
    ∷ record { refusal = 2; first = 35; second = 1; third = 0 }
    ∷ record { refusal = 3; first = 10; second = 6; third = 0 }
    ∷ record { refusal = 0; first = 0; second = 0; third = 0 }
    ∷ record { refusal = 0; first = 718; second = 0; third = 0 }
    ∷ record { refusal = 0; first = 326; second = 20000; third = 0 } ∷ []
answers_right = refl

-- and whatever the numbers are
faced_right : (n a b : ℕ)
    → (faced (Refused n) ≡ record { refusal = n; first = 0; second = 0; third = 0 })
    × (faced (RefusedAt n a b) ≡ record { refusal = n; first = a; second = b; third = 0 })
    × (faced (Count n) ≡ record { refusal = 0; first = n; second = 0; third = 0 })
    × (faced (Plate a b) ≡ record { refusal = 0; first = a; second = b; third = 0 })
faced_right n a b = (refl, refl, refl, refl)

-- both kinds of refusal are refusals, and nothing else is
refusal_right :
    map is_refusal (Refused 1 ∷ RefusedAt 2 1 1 ∷ Done ∷ Count 1 ∷ Plate 1 1 ∷ [])
    ≡ true ∷ true ∷ false ∷ false ∷ false ∷ []
refusal_right = refl
