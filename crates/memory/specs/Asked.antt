-- What the code asks before it reads or changes a slot: a memory of the right size, a slot that it has, a whole sheet.
use Rattle.std.specs.Prelude.{◌≡◌, ◌⊎◌, List, ℕ, ◌+◌, ◌*◌, ◌≤◌, ◌<◌, length}
use Rattle.sheet.specs.Lines.{fittings}
use Rattle.sheet.specs.Places.{sheet_words}
use Rattle.capacity.specs.Weights.{line_weight, boat_m}
use Rattle.capacity.specs.Highs.{word_most}
use Rattle.memory.specs.Layout.{most_hulls, desks, weighed_words, Sized, hull_count, edit, draft_hull}
use Rattle.memory.specs.Layout.{draft_weight, draft_sheet}
use Rattle.memory.specs.Formed.{most_edits}

-- ---- to read

pub record AtHull (m : List ℕ) (h : ℕ) : Type 0 where
  pub size : Sized m
  pub hull : h < most_hulls

pub record AtDesk (m : List ℕ) (d : ℕ) : Type 0 where
  pub size : Sized m
  pub desk : d < desks

-- a fitting line of a desk's draft
pub record AtLine (m : List ℕ) (d k : ℕ) : Type 0 where
  pub size : Sized m
  pub desk : d < desks
  pub first : 1 ≤ k
  pub last : k ≤ fittings

-- the first n hulls, and a desk beside so many as are counted
pub record AtHulls (m : List ℕ) (n : ℕ) : Type 0 where
  pub size : Sized m
  pub few : n ≤ most_hulls

pub record AtDraft (m : List ℕ) (d : ℕ) : Type 0 where
  pub size : Sized m
  pub few : hull_count m ≤ most_hulls
  pub desk : d < desks

-- ---- to change

-- with what its boat weighs
pub record ToEnter (m : List ℕ) (w : ℕ) (s : List ℕ) : Type 0 where
  pub size : Sized m
  pub room : hull_count m < most_hulls
  pub sheet : length s ≡ sheet_words
  pub weight : w ≡ boat_m s

pub record ToOpen (m : List ℕ) (d h : ℕ) : Type 0 where
  pub size : Sized m
  pub desk : d < desks
  pub hull : h < most_hulls

-- the draft's weight has what the line weighs, and room for what it will weigh
pub record ToSet (m : List ℕ) (d k w c : ℕ) : Type 0 where
  pub line : AtLine m d k
  pub old : line_weight (draft_sheet m d) k ≤ draft_weight m d
  pub room : draft_weight m d + w * c ≤ word_most

pub record ToReplace (m : List ℕ) (d w : ℕ) (s : List ℕ) : Type 0 where
  pub size : Sized m
  pub desk : d < desks
  pub sheet : length s ≡ sheet_words
  pub weight : w ≡ boat_m s

pub record ToSave (m : List ℕ) (d : ℕ) : Type 0 where
  pub size : Sized m
  pub desk : d < desks
  pub hull : draft_hull m d < most_hulls
  pub number : edit m (draft_hull m d) < most_edits

-- ---- to write a weight and a sheet's words within a list

-- a weight and s from a place on
pub record ToLay (m : List ℕ) (at : ℕ) (s : List ℕ) : Type 0 where
  pub fits : at + weighed_words ≤ length m
  pub sheet : length s ≡ sheet_words

-- those from one place on to another that they do not overlap
pub record ToCopy (m : List ℕ) (from to : ℕ) : Type 0 where
  pub source : from + weighed_words ≤ length m
  pub target : to + weighed_words ≤ length m
  pub apart : (to + weighed_words ≤ from) ⊎ (from + weighed_words ≤ to)
