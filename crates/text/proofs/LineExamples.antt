-- Worked lines, computed: where each is refused, for every way in which a line can be wrong.
use mathlib.Core.Path.{◌≡◌, refl}
use mathlib.Core.List.{List, [], ◌∷◌, map}
use Prim.Native.Nat.{ℕ}
use Prim.Native.String.{String}
use Rattle.answers.specs.Refusals.{broken_line, outside_limits}
use Rattle.text.specs.Read.{LineRead}
use Rattle.text.specs.Read.{Taken, Fault}
use Rattle.text.specs.Quoted.{bytes}
use Rattle.text.specs.Field.{field_of, agreed}
use Rattle.text.specs.Number.{rest_of, number_of}
use Rattle.text.specs.Limit.{ranging, ranging_or_none, ranging_capped}
use Rattle.text.specs.Line.{Line, read_entry, read_numbers, read_line}

-- ---- the lines

-- 1..24, then 1..24 or none
unfoldable pub seat_line : Line
seat_line = record { tag = bytes "SEAT\t"; limits = ranging 1 24 ∷ ranging_or_none 1 24 ∷ [] }

-- 2000..6000 three times, the second not above the first
unfoldable pub form_line : Line
form_line =
    record { tag = bytes "FORM\t"; limits = ranging 2000 6000 ∷ ranging_capped 2000 6000 ∷ ranging 2000 6000 ∷ [] }

-- a text, and a place in it
pub record Case : Type 0 where
  pub text : String
  pub place : ℕ

abbrev pub case : String → ℕ → Case
case text place = record { text = text; place = place }

abbrev pub reads : Line → Case → LineRead
reads l c = (read_line l (bytes c.text)).ended

abbrev pub refused_with : ℕ → Case → LineRead
refused_with number c = Fault number c.place

-- ---- taken, whatever follows

taken : List Case
taken = case "SEAT\t5\t7\n" 9 ∷ case "SEAT\t5\t-\n" 9 ∷ case "SEAT\t24\t24\nSEAT" 11 ∷ []

taken_right : map (reads seat_line) taken ≡ map (λ (c : Case). Taken c.place) taken
unfolding taken seat_line read_line agreed read_numbers read_entry field_of number_of rest_of
taken_right = refl

-- ---- refused for its form

unfoldable pub misformed : List Case
misformed =
    -- the tag
    case "seat\t5\t7\n" 0
    ∷ case " SEAT\t5\t7\n" 0
    ∷ case "SEAL\t5\t7\n" 3
    ∷ case "SEATS\t5\t7\n" 4
    -- a digit after a leading zero, an eleventh digit, a byte that is no digit, no byte
    ∷ case "SEAT\t05\t7\n" 6
    ∷ case "SEAT\t5\t00\n" 8
    ∷ case "SEAT\t12345678901\t7\n" 15
    ∷ case "SEAT\tx\t7\n" 5
    ∷ case "SEAT\t5x\t7\n" 6
    ∷ case "SEAT\t5 \t7\n" 6
    ∷ case "SEAT\t\t7\n" 5
    ∷ case "SEAT\t5\t\n" 7
    -- a line feed for a tab, a tab for a line feed, a carriage return
    ∷ case "SEAT\t5\n" 6
    ∷ case "SEAT\t5\t7\t\n" 8
    ∷ case "SEAT\t5\t7\r\n" 8
    ∷ case "SEAT\t5\t-\r\n" 8
    -- a `-` where there must be a number, and what follows one
    ∷ case "SEAT\t-\t7\n" 5
    ∷ case "SEAT\t5\t-1\n" 8
    ∷ case "SEAT\t5\t-\t\n" 8
    ∷ case "SEAT\t5\t--\n" 8
    -- text that stops early, at each step
    ∷ case "" 0
    ∷ case "SEA" 3
    ∷ case "SEAT" 4
    ∷ case "SEAT\t" 5
    ∷ case "SEAT\t5" 6
    ∷ case "SEAT\t5\t" 7
    ∷ case "SEAT\t5\t7" 8
    ∷ case "SEAT\t5\t-" 8
    -- out of limits too, but the form comes first, the ending byte included
    ∷ case "SEAT\t25\n" 7
    ∷ case "SEAT\t25" 7
    ∷ case "SEAT\t5\t0" 8
    ∷ case "SEAT\t1234567890" 15
    ∷ []

pub misformed_right : map (reads seat_line) misformed ≡ map (refused_with broken_line) misformed
unfolding misformed seat_line read_line agreed read_numbers read_entry field_of number_of rest_of
misformed_right = refl

-- ---- refused for a limit: the number's first byte, whatever is wrong after it

unfoldable pub outside : List Case
outside =
    case "SEAT\t0\t7\n" 5
    ∷ case "SEAT\t25\t7\n" 5
    ∷ case "SEAT\t1234567890\t7\n" 5
    ∷ case "SEAT\t25\t07\n" 5
    ∷ case "SEAT\t25\t" 5
    ∷ case "SEAT\t5\t0\n" 7
    ∷ case "SEAT\t5\t25\nSEAT" 7
    ∷ []

pub outside_right : map (reads seat_line) outside ≡ map (refused_with outside_limits) outside
unfolding outside seat_line read_line agreed read_numbers read_entry field_of number_of rest_of
outside_right = refl

-- the cap is the number just before
capped : List Case
capped = case "FORM\t4500\t4501\t4500\n" 10 ∷ case "FORM\t4500\t4500\t6001\n" 15 ∷ []

capped_right : map (reads form_line) capped ≡ map (refused_with outside_limits) capped
unfolding capped form_line read_line agreed read_numbers read_entry field_of number_of rest_of
capped_right = refl
