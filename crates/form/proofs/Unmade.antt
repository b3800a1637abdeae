-- Forms that are well made, and such as are not.
use mathlib.Core.Path.{◌≡◌, refl}
use mathlib.Core.Bool.{true, false}
use mathlib.Core.List.{List, [], ◌∷◌, map}
use Rattle.text.specs.Quoted.{bytes}
use Rattle.text.specs.Number.{digits_in, digits_of}
use Rattle.text.specs.Limit.{ranging, ranging_count}
use Rattle.text.specs.Line.{Line}
use Rattle.text.proofs.Limits.{narrow, readable}
use Rattle.text.proofs.Most.{numbers_most}
use Rattle.form.specs.Parts.{Form, some_lines, rising_lines, one_line, maybe_line, kind_of}
use Rattle.form.proofs.Letters.{line_made, kinds_made}
use Rattle.form.proofs.Most.{kinds_most, parts_most}
use Rattle.form.proofs.Made.{disjoint, apart, told, parts_made, well_made}
use Rattle.form.proofs.Examples.{round_line, square_line, shelf_line, note_line, end_line, store}
use Rattle.form.proofs.CountExamples.{lot_line, yard}

-- begins as a shelf's line does
other_line : Line
other_line = record { tag = bytes "LAST\n"; limits = [] }

untagged : Line
untagged = record { tag = []; limits = [] }

wide : Line
wide = record { tag = bytes "WIDE\t"; limits = ranging 0 10000000000 ∷ [] }

-- all of whose numbers may be left out
bare : Line
bare = record { tag = bytes "BARE\t"; limits = ranging_count 1 9 9 ∷ [] }

forms : List Form
forms =
    store
    ∷ yard
    -- as many shelves as there are before a line that begins alike, also past a part that may be absent
    ∷ record { parts = rising_lines 0 3 shelf_line ∷ one_line other_line ∷ []; room = 99 }
    ∷ record { parts = rising_lines 0 3 shelf_line ∷ maybe_line note_line ∷ one_line other_line ∷ []; room = 99 }
    -- two kinds of one letter; a line without a tag; a number of eleven digits
    ∷ record { parts = some_lines 1 2 (shelf_line ∷ other_line ∷ []) ∷ []; room = 99 }
    ∷ record { parts = one_line untagged ∷ []; room = 99 }
    ∷ record { parts = one_line wide ∷ []; room = 99 }
    -- a line that may have no number, and so no end
    ∷ record { parts = one_line bare ∷ []; room = 99 }
    -- a byte too little room
    ∷ record { parts = store.parts; room = 60 }
    ∷ record { parts = yard.parts; room = 29 }
    ∷ []

forms_right : map well_made forms ≡ true ∷ true ∷ false ∷ false ∷ false ∷ false ∷ false ∷ false ∷ false ∷ false ∷ []
unfolding forms other_line untagged wide bare store round_line square_line shelf_line note_line end_line yard lot_line
    well_made parts_made told apart disjoint kinds_made line_made readable narrow kind_of
    parts_most kinds_most numbers_most digits_of digits_in
forms_right = refl
