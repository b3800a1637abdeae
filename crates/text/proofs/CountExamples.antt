-- Worked lines whose last number counts the one before it, and may be left out: computed, as they are read, refused and
-- written.
use mathlib.Core.Path.{◌≡◌, refl}
use mathlib.Core.Bool.{true, false}
use mathlib.Core.List.{List, [], ◌∷◌, map}
use Prim.Native.Nat.{ℕ}
use Prim.Native.String.{String}
use Rattle.answers.specs.Refusals.{broken_line, outside_limits}
use Rattle.text.specs.Quoted.{bytes}
use Rattle.text.specs.Field.{field_of, agreed}
use Rattle.text.specs.Number.{rest_of, number_of, digits_in, digits_of}
use Rattle.text.specs.Limit.{ranging, ranging_or_none, ranging_count, all_hold}
use Rattle.text.specs.Line.{Line, Reading, read_entry, read_numbers, read_line, numbers_text, line_text}
use Rattle.text.proofs.NumbersTrip.{got}
use Rattle.text.proofs.LineExamples.{Case, case, reads, refused_with}

-- 1..24, 1..500000, and perhaps how many of these, up to 99: 500000 together at most
unfoldable pub fit_line : Line
fit_line = record { tag = bytes "FIT\t"; limits = ranging 1 24 ∷ ranging 1 500000 ∷ ranging_count 1 99 500000 ∷ [] }

-- two that may be left out, the second with what follows it; the first number may be none
unfoldable pub stack_line : Line
stack_line =
    record {
      tag = bytes "STACK\t";
      limits = ranging_or_none 1 9 ∷ ranging_count 1 9 10 ∷ ranging_count 1 9 12 ∷ ranging 1 9 ∷ [];
    }

-- ---- taken, whatever follows: each way of writing gives its numbers

-- a text, and what its line is read as
record Sample : Type 0 where
  text : String
  gives : Reading

abbrev sample : String → ℕ → List ℕ → Sample
sample text k ns = record { text = text; gives = got k ns }

fits : List Sample
fits =
    sample "FIT\t1\t3334\n" 11 (1 ∷ 3334 ∷ [])
    ∷ sample "FIT\t1\t3334\t1\n" 13 (1 ∷ 3334 ∷ 1 ∷ [])
    ∷ sample "FIT\t24\t5050\t99\n" 15 (24 ∷ 5050 ∷ 99 ∷ [])
    ∷ sample "FIT\t1\t250000\t2\n" 15 (1 ∷ 250000 ∷ 2 ∷ [])
    ∷ sample "FIT\t1\t500000\t1\n" 15 (1 ∷ 500000 ∷ 1 ∷ [])
    ∷ sample "FIT\t1\t500000\nFIT\t2" 13 (1 ∷ 500000 ∷ [])
    ∷ []

fits_read : map (λ (s : Sample). read_line fit_line (bytes s.text)) fits ≡ map (λ (s : Sample). s.gives) fits
unfolding fits fit_line read_line agreed read_numbers read_entry field_of number_of rest_of
fits_read = refl

stacks : List Sample
stacks =
    sample "STACK\t5\n" 8 (5 ∷ [])
    ∷ sample "STACK\t-\n" 8 (0 ∷ [])
    ∷ sample "STACK\t5\t2\n" 10 (5 ∷ 2 ∷ [])
    ∷ sample "STACK\t5\t2\t6\t9\n" 14 (5 ∷ 2 ∷ 6 ∷ 9 ∷ [])
    ∷ []

stacks_read : map (λ (s : Sample). read_line stack_line (bytes s.text)) stacks ≡ map (λ (s : Sample). s.gives) stacks
unfolding stacks stack_line read_line agreed read_numbers read_entry field_of number_of rest_of
stacks_read = refl

-- ---- refused for its form

unfoldable pub misformed : List Case
misformed =
    -- the weight may not be left out, nor the place
    case "FIT\t1\n" 5 ∷ case "FIT\n" 3
    -- an empty count; a fourth field, and one that is empty
    ∷ case "FIT\t1\t5\t\n" 8 ∷ case "FIT\t1\t5\t1\t1\n" 9 ∷ case "FIT\t1\t5\t1\t\n" 9
    -- a weight that is none, with either end; what ends neither
    ∷ case "FIT\t1\t05\n" 7 ∷ case "FIT\t1\t05\t1\n" 7 ∷ case "FIT\t1\t\n" 6 ∷ case "FIT\t1\t\t1\n" 6
    ∷ case "FIT\t1\t5\r\n" 7 ∷ case "FIT\t1\t5 \t1\n" 7
    -- a count that is none
    ∷ case "FIT\t1\t5\t01\n" 9 ∷ case "FIT\t1\t5\t-\n" 8 ∷ case "FIT\t1\t5\tx\n" 8 ∷ case "FIT\t1\t5\t1\r\n" 9
    -- text that stops early: after the place, the weight and the count, and after the tab before each
    ∷ case "FIT\t" 4 ∷ case "FIT\t1" 5 ∷ case "FIT\t1\t" 6 ∷ case "FIT\t1\t5" 7 ∷ case "FIT\t1\t5\t" 8
    ∷ case "FIT\t1\t5\t1" 9
    -- out of limits too, but the form comes first, the ending byte included
    ∷ case "FIT\t25\n" 6 ∷ case "FIT\t1\t500001" 12 ∷ case "FIT\t1\t5\t100" 11 ∷ case "FIT\t1\t5\t0\t" 9
    ∷ []

pub misformed_right : map (reads fit_line) misformed ≡ map (refused_with broken_line) misformed
unfolding misformed fit_line read_line agreed read_numbers read_entry field_of number_of rest_of
misformed_right = refl

-- the last may not be left out alone; a `-` is ended as a number is
unfoldable pub unstacked : List Case
unstacked = case "STACK\t5\t2\t6\n" 11 ∷ case "STACK\t-\r\n" 7 ∷ case "STACK\t-5\n" 7 ∷ case "STACK\t-" 7 ∷ []

pub unstacked_right : map (reads stack_line) unstacked ≡ map (refused_with broken_line) unstacked
unfolding unstacked stack_line read_line agreed read_numbers read_entry field_of number_of rest_of
unstacked_right = refl

-- ---- refused for a limit

unfoldable pub outside : List Case
outside =
    -- the weight, with either end, whatever follows
    case "FIT\t1\t500001\n" 6 ∷ case "FIT\t1\t500001\t1\n" 6 ∷ case "FIT\t1\t500001\t0" 6 ∷ case "FIT\t1\t0\n" 6
    ∷ case "FIT\t25\t5\n" 4
    -- the count: too few, too many, and too much together
    ∷ case "FIT\t1\t5\t0\n" 8 ∷ case "FIT\t1\t5\t100\n" 8 ∷ case "FIT\t1\t5051\t99\n" 11
    ∷ case "FIT\t1\t250001\t2\n" 13 ∷ case "FIT\t1\t500000\t2\n" 13
    ∷ []

pub outside_right : map (reads fit_line) outside ≡ map (refused_with outside_limits) outside
unfolding outside fit_line read_line agreed read_numbers read_entry field_of number_of rest_of
outside_right = refl

-- each counts the number just before it
overstacked : List Case
overstacked = case "STACK\t5\t3\n" 8 ∷ case "STACK\t5\t2\t7\t9\n" 10 ∷ case "STACK\t5\t2\t6\t10\n" 12 ∷ []

overstacked_right : map (reads stack_line) overstacked ≡ map (refused_with outside_limits) overstacked
unfolding overstacked stack_line read_line agreed read_numbers read_entry field_of number_of rest_of
overstacked_right = refl

-- ---- written: as many numbers as there are, where they may be so many

fits_written :
    map (line_text fit_line) ((1 ∷ 3334 ∷ []) ∷ (1 ∷ 3334 ∷ 1 ∷ []) ∷ (24 ∷ 5050 ∷ 99 ∷ []) ∷ [])
    ≡ bytes "FIT\t1\t3334\n" ∷ bytes "FIT\t1\t3334\t1\n" ∷ bytes "FIT\t24\t5050\t99\n" ∷ []
unfolding fit_line numbers_text digits_of digits_in
fits_written = refl

stacks_written :
    map (line_text stack_line) ((0 ∷ []) ∷ (5 ∷ 2 ∷ []) ∷ (5 ∷ 2 ∷ 6 ∷ 9 ∷ []) ∷ [])
    ≡ bytes "STACK\t-\n" ∷ bytes "STACK\t5\t2\n" ∷ bytes "STACK\t5\t2\t6\t9\n" ∷ []
unfolding stack_line numbers_text digits_of digits_in
stacks_written = refl

fits_held :
    map (all_hold fit_line.limits 0)
    ((1 ∷ 5 ∷ []) ∷ (1 ∷ 5050 ∷ 99 ∷ []) ∷ (1 ∷ 5051 ∷ 99 ∷ []) ∷ (1 ∷ []) ∷ [] ∷ (1 ∷ 5 ∷ 1 ∷ 1 ∷ []) ∷ [])
    ≡ true ∷ true ∷ false ∷ false ∷ false ∷ false ∷ []
unfolding fit_line all_hold
fits_held = refl
