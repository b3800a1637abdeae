-- 01, What the office does: sixteen hulls at most and eight desks, each with a draft or none. What a slot of each has,
-- and where it stands among the words of the lent memory (docs/REGISTER.md). The one list of the memory's places: each
-- follows from the one before.
use Rattle.std.specs.Prelude.{◌≡◌, ℕ, ◌+◌, ◌-◌, ◌*◌, List, [], ◌∷◌, ◌++◌, length, get_or, take, drop}
use Rattle.sheet.specs.Places.{sheet_words, fitting_word}

abbrev pub most_hulls : ℕ
most_hulls = 16

abbrev pub desks : ℕ
desks = 8

-- ---- where each word of the first slot stands: the count of hulls, then the hulls, then the desks

abbrev pub count_at : ℕ
count_at = 0

-- a hull's slot: its edit number, the boat's weight (02 (vii)), its sheet
abbrev first_edit : ℕ
first_edit = 1 + count_at

abbrev first_hull_weight : ℕ
first_hull_weight = 1 + first_edit

abbrev first_hull_sheet : ℕ
first_hull_sheet = 1 + first_hull_weight

abbrev pub hull_words : ℕ
hull_words = first_hull_sheet + sheet_words - first_edit

-- its words before the sheet, and all of them
abbrev pub hull_front : ℕ → ℕ → List ℕ
hull_front number weight = number ∷ weight ∷ []

abbrev pub hull_slot : ℕ → ℕ → List ℕ → List ℕ
hull_slot number weight sheet = hull_front number weight ++ sheet

-- a desk's slot: 1 if it holds a draft and 0 if not, the draft's hull, its opening number, the boat's weight by the
-- draft, its sheet
abbrev first_held : ℕ
first_held = first_edit + hull_words * most_hulls

abbrev first_draft_hull : ℕ
first_draft_hull = 1 + first_held

abbrev first_opening : ℕ
first_opening = 1 + first_draft_hull

abbrev first_draft_weight : ℕ
first_draft_weight = 1 + first_opening

abbrev first_draft_sheet : ℕ
first_draft_sheet = 1 + first_draft_weight

abbrev pub draft_words : ℕ
draft_words = first_draft_sheet + sheet_words - first_held

abbrev pub draft_front : ℕ → ℕ → ℕ → List ℕ
draft_front hull number weight = 1 ∷ hull ∷ number ∷ weight ∷ []

abbrev pub draft_slot : ℕ → ℕ → ℕ → List ℕ → List ℕ
draft_slot hull number weight sheet = draft_front hull number weight ++ sheet

-- ---- and of every slot, which starts with its first word

abbrev pub edit_at : ℕ → ℕ
edit_at i = first_edit + hull_words * i

abbrev pub hull_weight_at : ℕ → ℕ
hull_weight_at i = first_hull_weight + hull_words * i

abbrev pub hull_sheet_at : ℕ → ℕ
hull_sheet_at i = first_hull_sheet + hull_words * i

abbrev pub hull_at : ℕ → ℕ
hull_at i = edit_at i

abbrev pub held_at : ℕ → ℕ
held_at d = first_held + draft_words * d

abbrev pub draft_hull_at : ℕ → ℕ
draft_hull_at d = first_draft_hull + draft_words * d

abbrev pub opening_at : ℕ → ℕ
opening_at d = first_opening + draft_words * d

abbrev pub draft_weight_at : ℕ → ℕ
draft_weight_at d = first_draft_weight + draft_words * d

abbrev pub draft_sheet_at : ℕ → ℕ
draft_sheet_at d = first_draft_sheet + draft_words * d

abbrev pub draft_at : ℕ → ℕ
draft_at d = held_at d

-- weight and count on a fitting line of a desk's draft: the weight stands there, its count after it
abbrev pub fitting_at : ℕ → ℕ → ℕ
fitting_at d line = draft_sheet_at d + fitting_word line

-- a sheet with the boat's weight before it, so many words on end in either kind of slot
abbrev pub weighed_words : ℕ
weighed_words = 1 + sheet_words

abbrev pub register_words : ℕ
register_words = draft_at desks

-- m has the size of a register's memory
abbrev pub Sized : List ℕ → Type 0
Sized m = length m ≡ register_words

-- ---- what stands there

abbrev pub part : List ℕ → ℕ → ℕ → List ℕ
part m at n = take n (drop at m)

abbrev pub hull_count : List ℕ → ℕ
hull_count m = get_or m count_at 0

abbrev pub edit : List ℕ → ℕ → ℕ
edit m i = get_or m (edit_at i) 0

abbrev pub hull_weight : List ℕ → ℕ → ℕ
hull_weight m i = get_or m (hull_weight_at i) 0

abbrev pub hull_sheet : List ℕ → ℕ → List ℕ
hull_sheet m i = part m (hull_sheet_at i) sheet_words

abbrev pub held : List ℕ → ℕ → ℕ
held m d = get_or m (held_at d) 0

abbrev pub draft_hull : List ℕ → ℕ → ℕ
draft_hull m d = get_or m (draft_hull_at d) 0

abbrev pub opening : List ℕ → ℕ → ℕ
opening m d = get_or m (opening_at d) 0

abbrev pub draft_weight : List ℕ → ℕ → ℕ
draft_weight m d = get_or m (draft_weight_at d) 0

abbrev pub draft_sheet : List ℕ → ℕ → List ℕ
draft_sheet m d = part m (draft_sheet_at d) sheet_words

-- the weight of one piece, 0 where there is none
abbrev pub fitting : List ℕ → ℕ → ℕ → ℕ
fitting m d line = get_or m (fitting_at d line) 0

-- desk d holds a draft
abbrev pub Drafting : List ℕ → ℕ → Type 0
Drafting m d = held m d ≡ 0 → ⊥
