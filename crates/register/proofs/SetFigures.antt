-- 02 (ix), a fitting line set and emptied, computed: each figure of its limits and one beside it, 3 before 17, and what
-- is left. Desk 7's draft has 3334 g on line 1 and nothing on the others.
use mathlib.Core.Path.{◌≡◌, refl}
use mathlib.Core.List.{List, [], ◌∷◌, map}
use Prim.Native.Nat.{ℕ}
use lib.ListN.{set, take, drop}
use Rattle.text.specs.Limit.{all_hold}
use Rattle.answers.specs.Answer.{Refused, Done}
use Rattle.sheet.specs.Sheet.{fits_ok, ok_on}
use Rattle.capacity.specs.Weights.{added_up, boat_m}
use Rattle.memory.specs.Formed.{each, hull_ok, draft_ok, formed}
use Rattle.memory.specs.Updates.{fitted}
use Rattle.memory.proofs.Memories.{sheet, hulls, draft, idle}
use Rattle.register.specs.Refusals.{desk_refusal}
use Rattle.register.specs.Calls.{set_fitting, Call, work, step}
use Rattle.register.proofs.Wanted.{alike, agree, as_wanted}
use Rattle.register.proofs.Day.{Must, ◌must◌, wanted, answered, given}
use Rattle.register.proofs.Unformed.{small}

abbrev setting : ℕ → ℕ → ℕ → Call
setting line weight count = work 7 (set_fitting line weight count)

-- what is refused with 3, whether its line is full or empty
outside : List Must
outside =
    (setting 25 0 0 must Refused 3) ∷ (setting 0 0 0 must Refused 3) ∷ (setting 25 1 1 must Refused 3)
    ∷ (setting 0 1 1 must Refused 3) ∷ (setting 4294967295 0 0 must Refused 3)
    -- just one of the two is 0
    ∷ (setting 1 0 1 must Refused 3) ∷ (setting 1 1 0 must Refused 3) ∷ (setting 1 500001 0 must Refused 3)
    ∷ (setting 1 0 500 must Refused 3) ∷ (setting 24 0 1 must Refused 3) ∷ (setting 24 1 0 must Refused 3)
    ∷ (setting 1 500000 0 must Refused 3) ∷ (setting 1 0 99 must Refused 3)
    -- a weight, a count, a product, which never wraps
    ∷ (setting 1 500001 1 must Refused 3) ∷ (setting 1 1 100 must Refused 3) ∷ (setting 1 5051 99 must Refused 3)
    ∷ (setting 2 250001 2 must Refused 3) ∷ (setting 1 65536 65536 must Refused 3)
    ∷ (setting 1 2147483648 2 must Refused 3)
    ∷ (setting 1 4294967295 4294967295 must Refused 3) ∷ (setting 1 4294967295 1 must Refused 3)
    ∷ (setting 1 1 4294967295 must Refused 3)
    ∷ []

-- on the draft as it is
figures : List Must
figures =
    -- a full line is emptied, an empty one is not; and each is set
    (setting 1 0 0 must Done) ∷ (setting 2 0 0 must Refused 17) ∷ (setting 24 0 0 must Refused 17)
    ∷ (setting 1 1 1 must Done) ∷ (setting 2 1 1 must Done) ∷ (setting 24 500000 1 must Done)
    ∷ (setting 1 500000 1 must Done)
    ∷ (setting 1 1 99 must Done) ∷ (setting 1 5050 99 must Done) ∷ (setting 2 250000 2 must Done)
    -- the values that are there
    ∷ (setting 1 3334 1 must Done)
    -- the desk and its draft before the line
    ∷ (work 6 (set_fitting 25 0 0) must Refused 7) ∷ (work 6 (set_fitting 1 1 0) must Refused 7)
    ∷ (work 6 (set_fitting 24 0 0) must Refused 7) ∷ (work 8 (set_fitting 25 0 0) must Refused 6)
    ∷ (work 8 (set_fitting 1 0 1) must Refused 6) ∷ (work 8 (set_fitting 24 0 0) must Refused 6)
    ∷ []

-- one after the other: line 1 emptied, and so empty; set, set to the same, to one piece less; and emptied again
in_turn : List Must
in_turn =
    (setting 1 0 0 must Done) ∷ (setting 1 0 0 must Refused 17) ∷ (setting 1 5050 99 must Done)
    ∷ (setting 1 5050 99 must Done)
    ∷ (setting 1 5050 98 must Done) ∷ (setting 1 0 0 must Done) ∷ (setting 1 0 0 must Refused 17)
    ∷ []

-- line 1 without its fitting, and the boat without its weight
emptied : List ℕ
emptied = set (set (set small 2225 0) 2226 0) 2180 200000

sets_right :
    (answered small outside ≡ map wanted outside) × (answered emptied outside ≡ map wanted outside)
    × (answered small figures ≡ map wanted figures) × (given small in_turn ≡ map wanted in_turn)
unfolding alike agree outside figures in_turn emptied answered given small sheet hulls draft idle formed each hull_ok
    draft_ok desk_refusal all_hold ok_on fits_ok boat_m added_up fitted
sets_right = (
  as_wanted (answered small outside) (map wanted outside) refl,
  as_wanted (answered emptied outside) (map wanted outside) refl,
  as_wanted (answered small figures) (map wanted figures) refl,
  as_wanted (given small in_turn) (map wanted in_turn) refl,
)

-- the words of lines 1 and 2; refused, all are as they were
lines_left :
    map (λ (c : Call). take 4 (drop 2225 (step small c).memory))
    (setting 1 0 0 ∷ setting 1 120 12 ∷ setting 2 120 12 ∷ setting 1 0 12 ∷ setting 1 120 0
    ∷ setting 2 0 0 ∷ setting 25 0 0 ∷ [])
    ≡ (0 ∷ 0 ∷ 0 ∷ 0 ∷ []) ∷ (120 ∷ 12 ∷ 0 ∷ 0 ∷ []) ∷ (3334 ∷ 1 ∷ 120 ∷ 12 ∷ []) ∷ (3334 ∷ 1 ∷ 0 ∷ 0 ∷ [])
    ∷ (3334 ∷ 1 ∷ 0 ∷ 0 ∷ []) ∷ (3334 ∷ 1 ∷ 0 ∷ 0 ∷ []) ∷ (3334 ∷ 1 ∷ 0 ∷ 0 ∷ []) ∷ []
unfolding small sheet hulls draft idle formed each hull_ok draft_ok desk_refusal all_hold ok_on fits_ok boat_m added_up fitted
lines_left = refl

-- and where the lines beside are full too
beside_left :
    map (λ (c : Call). take 6 (drop 2225 (step (fitted (fitted small 7 2 120 12) 7 3 40 1) c).memory))
    (setting 1 0 0 ∷ setting 2 0 0 ∷ setting 2 7 3 ∷ setting 3 0 0 ∷ [])
    ≡ (0 ∷ 0 ∷ 120 ∷ 12 ∷ 40 ∷ 1 ∷ []) ∷ (3334 ∷ 1 ∷ 0 ∷ 0 ∷ 40 ∷ 1 ∷ []) ∷ (3334 ∷ 1 ∷ 7 ∷ 3 ∷ 40 ∷ 1 ∷ [])
    ∷ (3334 ∷ 1 ∷ 120 ∷ 12 ∷ 0 ∷ 0 ∷ []) ∷ []
unfolding small sheet hulls draft idle formed each hull_ok draft_ok desk_refusal all_hold ok_on fits_ok boat_m added_up fitted
beside_left = refl

-- and all words of the memory: of the line that is emptied its two are 0, and the boat weighs so much less
emptied_whole : (step small (setting 1 0 0)).memory ≡ emptied
unfolding emptied small sheet hulls draft idle formed each hull_ok draft_ok desk_refusal all_hold ok_on fits_ok boat_m added_up
    fitted
emptied_whole = refl
