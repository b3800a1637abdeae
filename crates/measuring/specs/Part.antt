-- A part of a sheet's words, without its HULL number: those from one place up to another, before the fittings.
use Rattle.std.specs.Prelude.{ℕ, ◌-◌, ◌≤◌, ◌<◌, ◌≡◌, Bool, true, List, length, get_or, take, drop, replicate}
use Rattle.text.specs.declared.Limit.{Limit}
use Rattle.text.specs.Limit.{ranging, all_hold, from_zero}
use Rattle.sheet.specs.Sheet.{limit_rows}
use Rattle.sheet.specs.Places.{fittings_at, sheet_words}

-- the rows of the table for those words
abbrev pub word_rows : List Limit
word_rows = drop 1 limit_rows

-- whether the words from a place up to an end are within their limits, with no word before them
unfoldable pub part_ok : List ℕ → ℕ → ℕ → Bool
part_ok ws at end = all_hold (take (end - at) (drop at word_rows)) 0 (take (end - at) (drop at ws))

-- the rows and words that a function is lent
pub record Lent (rows : List Limit) (ws : List ℕ) : Type 0 where
  pub table : rows ≡ word_rows
  pub words : length ws ≡ sheet_words

-- places that they have
pub record WordPart (at end : ℕ) : Type 0 where
  pub order : at < end
  pub most : end ≤ fittings_at

-- places whose rows are alike, with a range that goes down to 0
pub record AlikePart (at end : ℕ) : Type 0 where
  pub places : WordPart at end
  pub alike : take (end - at) (drop at word_rows) ≡ replicate (end - at) (get_or word_rows at (ranging 0 0))
  pub low : from_zero (get_or word_rows at (ranging 0 0)) ≡ true
