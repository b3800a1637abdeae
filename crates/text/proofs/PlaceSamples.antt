-- Worked places, computed: every place of a few texts, the one after the last byte too, as line and byte.
use mathlib.Core.Path.{◌≡◌, refl}
use mathlib.Core.List.{List, [], ◌∷◌, map}
use Prim.Native.Nat.{ℕ, ◌+◌}
use Prim.Native.String.{String}
use lib.ListN.{length}
use Rattle.text.specs.Quoted.{bytes}
use Rattle.text.specs.Place.{feeds, since_feed, line_at, byte_at, cut_from, cut_lines, first_line, after_lines}
use Rattle.text.proofs.Examples.{up_from}

record LineByte : Type 0 where
  line : ℕ
  byte : ℕ

abbrev at : ℕ → ℕ → LineByte
at line byte = record { line = line; byte = byte }

unfoldable places : String → List LineByte
places s =
    let t = bytes s in
    map (λ (k : ℕ). at (line_at t k) (byte_at t k)) (up_from (length t + 1) 0)

-- the empty text: line 1, byte 1
empty_right : places "" ≡ at 1 1 ∷ []
unfolding places up_from feeds since_feed
empty_right = refl

-- each line feed on the line that it ends, on an empty line too; the text stops within its last line
several_right :
    places "AB\t1\n\nC\nDE"
    ≡ at 1 1 ∷ at 1 2 ∷ at 1 3 ∷ at 1 4 ∷ at 1 5 ∷ at 2 1 ∷ at 3 1 ∷ at 3 2 ∷ at 4 1 ∷ at 4 2 ∷ at 4 3 ∷ []
unfolding places up_from feeds since_feed
several_right = refl

-- after a last line feed: the next line's byte 1
ended_right : places "A\nB\n" ≡ at 1 1 ∷ at 1 2 ∷ at 2 1 ∷ at 2 2 ∷ at 3 1 ∷ []
unfolding places up_from feeds since_feed
ended_right = refl

-- a carriage return is a byte of its line and ends none
returns_right : places "A\r\nB\rC" ≡ at 1 1 ∷ at 1 2 ∷ at 1 3 ∷ at 2 1 ∷ at 2 2 ∷ at 2 3 ∷ at 2 4 ∷ []
unfolding places up_from feeds since_feed
returns_right = refl

-- ---- the lines themselves

lines_right :
    map (λ (s : String). cut_lines (bytes s)) ("" ∷ "AB" ∷ "A\n" ∷ "A\n\nB\r\nC" ∷ [])
    ≡ (bytes "" ∷ []) ∷ (bytes "AB" ∷ []) ∷ (bytes "A\n" ∷ bytes "" ∷ [])
    ∷ (bytes "A\n" ∷ bytes "\n" ∷ bytes "B\r\n" ∷ bytes "C" ∷ []) ∷ []
unfolding cut_from
lines_right = refl

-- the first: with its line feed, where it has one; a tab or a carriage return ends none
first_right :
    map (λ (s : String). first_line (bytes s)) ("" ∷ "AB" ∷ "\nA\n" ∷ "A\tB\r\nC\n" ∷ [])
    ≡ bytes "" ∷ bytes "AB" ∷ bytes "\n" ∷ bytes "A\tB\r\n" ∷ []
unfolding first_line
first_right = refl

-- what stands after none of three lines, after one, two, three of them, and after more than there are
after_right :
    map (λ (n : ℕ). after_lines n (bytes "A\n\nB\tC\n")) (0 ∷ 1 ∷ 2 ∷ 3 ∷ 4 ∷ [])
    ≡ bytes "A\n\nB\tC\n" ∷ bytes "\nB\tC\n" ∷ bytes "B\tC\n" ∷ bytes "" ∷ bytes "" ∷ []
unfolding after_lines first_line
after_right = refl

-- the last line need not be ended, and of an empty text nothing is left
after_unended :
    after_lines 1 (bytes "A\nBC") ∷ after_lines 2 (bytes "A\nBC") ∷ after_lines 1 (bytes "") ∷ []
    ≡ bytes "BC" ∷ bytes "" ∷ bytes "" ∷ []
unfolding after_lines first_line
after_unended = refl
