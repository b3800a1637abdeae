-- 01, Refusal 1: a memory that is well formed is not refused with it. Its size and every number in it that is in use
-- are judged, 02 (vii) the boat's weight beside each sheet too; what stands in the slots of hulls not entered and of
-- desks without a draft is free.
use Rattle.std.specs.Prelude.{ℕ, zero, suc, Bool, true, ◌&&◌, ◌||◌, List, eqb, leb, ltb, length}
use Rattle.capacity.specs.Weights.{weighed_ok}
use Rattle.memory.specs.Layout.{most_hulls, desks, register_words}
use Rattle.memory.specs.Layout.{hull_count, edit, hull_weight, hull_sheet, held, draft_hull, opening}
use Rattle.memory.specs.Layout.{draft_weight, draft_sheet}

abbrev pub most_edits : ℕ
most_edits = 65535

-- f holds of each number below n
unfoldable pub each : ℕ → (ℕ → Bool) → Bool
each zero f = true
each (suc n) f = each n f && f n

unfoldable pub hull_ok : List ℕ → ℕ → Bool
hull_ok m i = leb (edit m i) most_edits && weighed_ok (hull_weight m i) (hull_sheet m i)

-- of a draft: its hull is entered, its opening number is not above the hull's, its sheet is within limits and weighed
unfoldable pub draft_ok : List ℕ → ℕ → Bool
draft_ok m d =
    eqb (held m d) 0
    || (eqb (held m d) 1
    && (ltb (draft_hull m d) (hull_count m)
    && (leb (opening m d) (edit m (draft_hull m d))
    && weighed_ok (draft_weight m d) (draft_sheet m d))))

unfoldable pub formed : List ℕ → Bool
formed m =
    eqb (length m) register_words
    && (leb (hull_count m) most_hulls
    && (each (hull_count m) (hull_ok m)
    && each desks (draft_ok m)))
