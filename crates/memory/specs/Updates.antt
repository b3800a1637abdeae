-- 01, Calls on the register: what an accepted call makes of the memory. Each is a write to one slot; entering a hull
-- counts it too, and saving a draft ends it too. 02 (vii): the boat's weight follows its sheet in each of them.
use Rattle.std.specs.Prelude.{ℕ, ◌+◌, ◌-◌, ◌*◌, List, [], ◌∷◌, set, replicate}
use Rattle.std.proofs.lemmas.List.Edits.{sets}
use Rattle.capacity.specs.Weights.{line_weight, boat_m}
use Rattle.memory.specs.Layout.{register_words, count_at, hull_at, draft_at, held_at, draft_weight_at, fitting_at}
use Rattle.memory.specs.Layout.{hull_slot, draft_slot, hull_count, edit, hull_weight, hull_sheet, draft_hull}
use Rattle.memory.specs.Layout.{draft_weight, draft_sheet}

-- fresh start: no hull, no draft, and every word 0
unfoldable pub fresh_words : List ℕ
fresh_words = replicate register_words 0

-- a new hull: the sheet given, at edit number 0, with what the boat weighs by it, counted
unfoldable pub entered : List ℕ → List ℕ → List ℕ
entered m s = set (sets m (hull_at (hull_count m)) (hull_slot 0 (boat_m s) s)) count_at (hull_count m + 1)

-- open: the draft is a copy of the hull as it stands; a draft that the desk held is discarded
unfoldable pub opened : List ℕ → ℕ → ℕ → List ℕ
opened m d h = sets m (draft_at d) (draft_slot h (edit m h) (hull_weight m h) (hull_sheet m h))

-- a fitting line set to a weight and a count; both are 0 where it is emptied. The boat's weight moves by the
-- difference: what the line weighs now is added, and what it weighed is taken off.
abbrev pub moved : List ℕ → ℕ → ℕ → ℕ → ℕ → ℕ
moved m d line weight count = draft_weight m d + weight * count - line_weight (draft_sheet m d) line

unfoldable pub fitted : List ℕ → ℕ → ℕ → ℕ → ℕ → List ℕ
fitted m d line weight count =
    set (sets m (fitting_at d line) (weight ∷ count ∷ [])) (draft_weight_at d) (moved m d line weight count)

-- replace: another sheet, of the same draft, with what the boat weighs by it
unfoldable pub replaced : List ℕ → ℕ → List ℕ → List ℕ
replaced m d s = sets m (draft_weight_at d) (boat_m s ∷ s)

-- drop: the desk holds no draft; its other words stay
unfoldable pub dropped : List ℕ → ℕ → List ℕ
dropped m d = set m (held_at d) 0

-- save: the hull gets the draft's sheet and weight and one more edit, and the draft ends
unfoldable pub saved : List ℕ → ℕ → List ℕ
saved m d =
    let h = draft_hull m d in
    dropped (sets m (hull_at h) (hull_slot (edit m h + 1) (draft_weight m d) (draft_sheet m d))) d
