-- 01, Sample sheets, on the program's input: a sheet and then engine lines. The sheet goes as far as the first line
-- that is END alone, or all the way. No input has more than 8,192 bytes.
use Rattle.std.specs.Prelude.{ℕ, suc, Bool, true, false, ◌&&◌, List, [], ◌∷◌, eqb, take, drop}
use Rattle.text.specs.Quoted.{feed}
use Rattle.text.specs.Field.{agreed}
use Rattle.sheet.specs.Lines.{end_line}

abbrev pub most_input : ℕ
most_input = 8192

-- how many bytes the sheet has; `starting` says whether a line starts here
unfoldable pub sheet_bytes : Bool → List ℕ → ℕ
sheet_bytes starting [] = 0
sheet_bytes starting (b ∷ t) =
    elim (starting && eqb (agreed end_line.tag (b ∷ t)) 4) [
      | true ↦ 4
      | false ↦ suc (sheet_bytes (eqb b feed) t)
    ]

abbrev pub sheet_part : List ℕ → List ℕ
sheet_part t = take (sheet_bytes true t) t

abbrev pub engine_part : List ℕ → List ℕ
engine_part t = drop (sheet_bytes true t) t
