-- Every call with everything wrong, in no memory and in memories that are not well formed, computed: the memory comes
-- first.
use mathlib.Core.Path.{◌≡◌, refl}
use mathlib.Core.List.{List, [], ◌∷◌, ◌++◌, map}
use Prim.Native.Nat.{ℕ}
use lib.ListN.{set, take, replicate}
use Rattle.text.specs.Limit.{all_hold}
use Rattle.answers.specs.Answer.{Refused}
use Rattle.sheet.specs.Sheet.{fits_ok, ok_on}
use Rattle.capacity.specs.Weights.{added_up, boat_m}
use Rattle.capacity.specs.Kinds.{kind_a, kind_c, kind_u}
use Rattle.memory.specs.Formed.{each, hull_ok, draft_ok, formed}
use Rattle.memory.proofs.Memories.{sheet, hulls, draft, idle}
use Rattle.register.specs.Refusals.{room_refusal, hull_refusal, open_refusal, desk_refusal}
use Rattle.register.specs.Calls.{set_fitting, replace, try_plate, plate, weigh, write}
use Rattle.register.specs.Calls.{Call, new_hull, open_hull, work, save, drop_draft, ask, step}

-- no such desk or hull, a text that is none, rows that are wrong, no room
abbrev pub wrongs : List Call
wrongs =
    new_hull [] ∷ open_hull 8 16 ∷ work 8 (set_fitting 0 1 0) ∷ work 8 (set_fitting 1 0 0) ∷ work 8 (replace [])
    ∷ work 8 (try_plate kind_a) ∷ work 8 (try_plate (kind_c [] [])) ∷ work 8 (try_plate kind_u) ∷ save 8 ∷ drop_draft 8
    ∷ ask 16 (plate kind_a) ∷ ask 16 (plate (kind_c [] [])) ∷ ask 16 (plate kind_u) ∷ ask 16 weigh
    ∷ ask 16 (write [])
    ∷ []

-- the memory comes first
no_memory : map (λ (c : Call). (step [] c).answer) wrongs ≡ replicate 15 (Refused 1)
unfolding formed room_refusal hull_refusal open_refusal desk_refusal
no_memory = refl

-- one hull, and desk 7 at work on it; a sheet stands where the second would be
unfoldable pub small : List ℕ
small = 1 ∷ (hulls 2 0 ++ (replicate 1316 99 ++ (idle 7 ++ draft 0 0)))

-- the size, the count, an edit number, a draft's sheet; a fitting's weight without its count on a hull, a count without
-- its weight on a draft, too many pieces; and the boat's weight, of a hull and of a draft
unformed : List (List ℕ)
unformed =
    take 2272 small ∷ set small 0 17 ∷ set small 1 65536 ∷ set small 2181 1999 ∷ set (set small 48 0) 2 200000
    ∷ set (set small 2225 0) 2180 200000 ∷ set (set small 2226 150) 2180 700100
    ∷ set small 2 203335 ∷ set small 2180 203333 ∷ []

-- the memory comes first, of each call
unformed_right : map (λ (m : List ℕ). map (λ (c : Call). (step m c).answer) wrongs) unformed
    ≡ replicate 9 (replicate 15 (Refused 1))
unfolding unformed small sheet hulls draft idle formed each hull_ok draft_ok hull_refusal desk_refusal room_refusal
    open_refusal all_hold ok_on fits_ok boat_m added_up
unformed_right = refl
