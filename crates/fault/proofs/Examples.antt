-- The forms of samples: at which byte their texts go wrong, by the rules and not by the reader.
use mathlib.Core.Path.{◌≡◌, refl}
use mathlib.Core.Bool.{true, false}
use mathlib.Core.List.{List, [], ◌∷◌, map}
use Rattle.answers.specs.Refusals.{broken_line}
use Rattle.text.specs.Quoted.{bytes}
use Rattle.text.specs.Field.{field_of, agreed}
use Rattle.text.specs.Number.{number_of, rest_of, digits_in, digits_of}
use Rattle.text.specs.Line.{read_entry, read_numbers, read_line}
use Rattle.text.proofs.LineExamples.{Case, case}
use Rattle.text.proofs.Limits.{narrow, readable}
use Rattle.text.proofs.Most.{numbers_most}
use Rattle.form.specs.Parts.{Part, Form, some_lines, one_line, kind_of}
use Rattle.form.specs.Outcome.{lost}
use Rattle.form.specs.Reading.{read_rows, read_parts}
use Rattle.form.proofs.Letters.{line_made, kinds_made}
use Rattle.form.proofs.Most.{kinds_most, parts_most}
use Rattle.form.proofs.Made.{disjoint, apart, told, parts_made, well_made}
use Rattle.form.proofs.Examples.{round_line, square_line, shelf_line, note_line, end_line, store}
use Rattle.form.proofs.CountExamples.{lot_line, yard}
use Rattle.fault.specs.Rules.{ByRules}
use Rattle.fault.specs.Faulty.{Faulty}
use Rattle.fault.proofs.LineSamples.{Every}
use Rattle.fault.proofs.Sayable.{can_be, sayable}
use Rattle.fault.proofs.Theorems.{form_place}

-- ---- forms of which there are texts, and such as there are none of

parts : List (List Part)
parts =
    store.parts
    -- the least above the most; a line of no kind
    ∷ (some_lines 3 2 (round_line ∷ []) ∷ one_line end_line ∷ [])
    ∷ (one_line end_line ∷ some_lines 1 2 [] ∷ [])
    -- nothing; no line, of no kind
    ∷ []
    ∷ (some_lines 0 2 [] ∷ [])
    ∷ []

parts_right : map sayable parts ≡ true ∷ false ∷ false ∷ true ∷ true ∷ []
unfolding parts store round_line square_line shelf_line note_line end_line sayable can_be
parts_right = refl

pub store_made : well_made store ≡ true
unfolding store round_line square_line shelf_line note_line end_line
    well_made parts_made told apart disjoint kinds_made line_made readable narrow kind_of
    parts_most kinds_most numbers_most digits_of digits_in
store_made = refl

pub store_said : sayable store.parts ≡ true
unfolding store round_line square_line shelf_line note_line end_line sayable can_be
store_said = refl

-- ---- where a text goes wrong

texts : List Case
texts =
    -- no crate; a third; another letter, and a letter's line with another tag
    case "END\n" 0 ∷ case "ROUND\t1\nROUND\t2\nROUND\t3\nEND\n" 16
    ∷ case "BARREL\t1\nEND\n" 0 ∷ case "RING\t1\nEND\n" 1
    -- a fourth shelf; a second note
    ∷ case "ROUND\t1\nLEVEL\t1\t0\nLEVEL\t2\t0\nLEVEL\t3\t0\nLEVEL\t4\t0\n" 38
    ∷ case "ROUND\t1\nNOTE\nNOTE\nEND\n" 13
    -- no end, and half of it; more after it; nothing at all
    ∷ case "ROUND\t1\n" 8 ∷ case "ROUND\t1\nEND" 11 ∷ case "ROUND\t1\nEND\nEND\n" 12 ∷ case "" 0
    -- a digit after a leading zero; a tab where the line ends, and the other way round; a carriage return
    ∷ case "ROUND\t01\nEND\n" 7 ∷ case "ROUND\t1\t2\nEND\n" 7 ∷ case "SQUARE\t1\nEND\n" 8
    ∷ case "ROUND\t1\r\nEND\n" 7
    ∷ []

abbrev Wrong : Form → Case → Type 0
Wrong f c = Faulty (ByRules f) (bytes c.text) c.place

each_wrong : (f : Form) → well_made f ≡ true → sayable f.parts ≡ true
    → (cs : List Case)
    → map (λ (c : Case). read_parts f.parts (bytes c.text)) cs ≡ map (λ (c : Case). lost broken_line c.place) cs
    → Every (Wrong f) cs
each_wrong f m s [] e = tt
each_wrong f m s (c ∷ cs) e = (form_place f m s (bytes c.text) c.place (cc), each_wrong f m s cs (cc))

texts_wrong : Every (Wrong store) texts
unfolding texts store round_line square_line shelf_line note_line end_line
    read_parts read_rows kind_of read_line read_numbers read_entry agreed field_of number_of rest_of
texts_wrong = each_wrong store store_made store_said texts refl

-- and with a number that may be left out
yard_texts : List Case
yard_texts =
    -- a weight left out too; an empty count; a number too many
    case "LOT\t2\nEND\n" 5 ∷ case "LOT\t2\t50\t\nEND\n" 9 ∷ case "LOT\t2\t50\t1\t1\nEND\n" 10
    -- no byte that may end a weight; a leading zero, of a weight that ends its line and of one that does not
    ∷ case "LOT\t2\t50\r\nEND\n" 8 ∷ case "LOT\t2\t05\nEND\n" 7 ∷ case "LOT\t2\t05\t1\nEND\n" 7
    -- a third lot, after lines of both kinds; another letter after each kind
    ∷ case "LOT\t2\t50\nLOT\t3\t50\t1\nLOT\t4\t50\nEND\n" 20
    ∷ case "LOT\t2\t50\nX" 9 ∷ case "LOT\t2\t50\t1\nX" 11
    -- text that stops after the weight, after the tab, after the count, and after a line of either kind
    ∷ case "LOT\t2\t50" 8 ∷ case "LOT\t2\t50\t" 9 ∷ case "LOT\t2\t50\t1" 10 ∷ case "LOT\t2\t50\n" 9
    ∷ case "LOT\t2\t50\t1\n" 11
    ∷ []

yard_made : well_made yard ≡ true
unfolding yard lot_line end_line
    well_made parts_made told apart disjoint kinds_made line_made readable narrow kind_of
    parts_most kinds_most numbers_most digits_of digits_in
yard_made = refl

yard_said : sayable yard.parts ≡ true
unfolding yard lot_line end_line sayable can_be
yard_said = refl

yard_wrong : Every (Wrong yard) yard_texts
unfolding yard_texts yard lot_line end_line
    read_parts read_rows kind_of read_line read_numbers read_entry agreed field_of number_of rest_of
yard_wrong = each_wrong yard yard_made yard_said yard_texts refl
