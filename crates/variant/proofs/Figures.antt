-- 02 (xi), computed: which text is refused, where, and which first. Figures counted by hand, each with some beside it.
use mathlib.Core.Path.{◌≡◌, refl}
use mathlib.Core.List.{List, [], ◌∷◌, ◌++◌, map}
use Prim.Native.Nat.{ℕ}
use lib.ListN.{replicate}
use Rattle.text.specs.Quoted.{bytes}
use Rattle.text.specs.Field.{field_of, agreed}
use Rattle.text.specs.Number.{rest_of, number_of}
use Rattle.text.specs.Line.{read_entry, read_numbers, read_line}
use Rattle.text.specs.Place.{feeds, since_feed, cut_from}
use Rattle.variant.specs.Answered.{RefusedAt, Done}
use Rattle.form.specs.Parts.{kind_of, numbers_of}
use Rattle.form.specs.Reading.{read_rows, read_parts, read_form}
use Rattle.sheet.specs.SheetText.{sheet_form, empty_lines, fits_from, fits_of, numbers_on, read_sheet}
use Rattle.sheet.proofs.BaseHull.{hull, form, mass, power, seats, sheet_with, with_rest, sample}
use Rattle.variant.specs.VariantText.{variant_form, read_variant}
use Rattle.variant.specs.Joined.{written_in, joined_text}
use Rattle.variant.specs.Given.{one_text, two_texts}
use Rattle.variant.proofs.Texts.{variant_with, other, Figure, ◌must◌, given, wanted, answered}

-- ---- which text is refused, and where

-- a variant that leaves out all that it may
abbrev bare : List ℕ
bare = variant_with "END\n"

-- 4,096 bytes, which are read, and one more
abbrev long : List ℕ
long = bytes "HULL\t" ++ replicate 4091 48

abbrev too_long : List ℕ
too_long = bytes "HULL\t" ++ replicate 4092 48

unfoldable pub figures : List Figure
figures =
    (two_texts sample bare must Done) ∷ (two_texts sample sample must Done) ∷ (one_text sample must Done)
    ∷ (one_text bare must RefusedAt 2 7 1 0)
    ∷ (one_text (variant_with "MASS\t1\t0\t0\nVOL\t0\t0\t0\nEND\n") must RefusedAt 2 7 1 0)
    -- a parent leaves no line out, and is told first, its FIT lines too, whatever the variant
    ∷ (two_texts bare bare must RefusedAt 2 7 1 1) ∷ (two_texts bare sample must RefusedAt 2 7 1 1)
    ∷ (two_texts (variant_with "VOL\t0\t0\t0\nPWR\t1\t20000\nSEAT\t5\t3\nEND\n") sample must RefusedAt 2 8 1 1)
    ∷ (two_texts (variant_with "VOL\t0\t0\t0\nMASS\t200000\t0\t0\nSEAT\t5\t3\nEND\n") sample must RefusedAt 2 9 1 1)
    ∷ (two_texts (variant_with "VOL\t0\t0\t0\nMASS\t200000\t0\t0\nPWR\t1\t20000\nEND\n") sample must RefusedAt 2 10 1 1)
    ∷ (two_texts [] [] must RefusedAt 2 1 1 1) ∷ (two_texts [] sample must RefusedAt 2 1 1 1)
    ∷ (two_texts sample [] must RefusedAt 2 1 1 2)
    ∷ (two_texts (with_rest "FIT\t0\t5\nEND\n") sample must RefusedAt 3 11 5 1)
    ∷ (two_texts (with_rest "FIT\t1\t5\n") bare must RefusedAt 2 12 1 1)
    ∷ (two_texts (sheet_with "HULL\t16\n" form mass power seats (bytes "END\n")) bare must RefusedAt 3 1 6 1)
    ∷ (two_texts (sheet_with hull form mass "PWR\t2\t0\n" seats (bytes "END\n")) (bytes "HULL\t16\n")
    must RefusedAt 3 9 5 1)
    ∷ (two_texts sample (bytes "HULL\t16\n") must RefusedAt 3 1 6 2)
    -- lines that are handed on change no place, be they used or not
    ∷ (two_texts other (variant_with "FIT\t0\t5\nEND\n") must RefusedAt 3 7 5 2)
    ∷ (two_texts other (variant_with "MASS\t1\t0\t0\nFIT\t0\t5\nEND\n") must RefusedAt 3 8 5 2)
    ∷ (two_texts other (with_rest "FIT\t0\t5\nEND\n") must RefusedAt 3 11 5 2)
    -- a limit of a line that may be left out, and its other end
    ∷ (two_texts sample (variant_with "SEAT\t25\t3\nEND\n") must RefusedAt 3 7 6 2)
    ∷ (two_texts sample (variant_with "SEAT\t24\t3\nEND\n") must Done)
    ∷ (two_texts sample (variant_with "SEAT\t0\t3\nEND\n") must RefusedAt 3 7 6 2)
    ∷ (two_texts sample (variant_with "VOL\t5000001\t0\t0\nEND\n") must RefusedAt 3 7 5 2)
    ∷ (two_texts sample (variant_with "MASS\t0\t0\t0\nEND\n") must RefusedAt 3 7 6 2)
    ∷ (two_texts sample (variant_with "PWR\t2\t0\nEND\n") must RefusedAt 3 7 5 2)
    -- where a line may stand: V after MASS, M after PWR; a fifth STN, whose S may begin SEAT; other tags; after END
    ∷ (two_texts sample (variant_with "MASS\t1\t0\t0\nVOL\t0\t0\t0\nEND\n") must RefusedAt 2 8 1 2)
    ∷ (two_texts sample (variant_with "PWR\t1\t1\nMASS\t1\t0\t0\nEND\n") must RefusedAt 2 8 1 2)
    ∷ (two_texts sample (variant_with "SEAT\t5\t3\nPWR\t1\t1\nEND\n") must RefusedAt 2 8 1 2)
    ∷ (two_texts sample (variant_with "STN\tT\t1000\t500\t500\t500\t500\t500\t500\nEND\n") must RefusedAt 2 7 2 2)
    ∷ (two_texts sample (variant_with "SET\t5\t3\nEND\n") must RefusedAt 2 7 3 2)
    ∷ (two_texts sample (variant_with "FORM\t4500\t4000\t1200\t500\t0\t1\nEND\n") must RefusedAt 2 7 2 2)
    ∷ (two_texts sample (variant_with "HULL\t0\nEND\n") must RefusedAt 2 7 1 2)
    ∷ (two_texts sample (variant_with "END\nVOL\t0\t0\t0\n") must RefusedAt 2 8 1 2)
    ∷ (two_texts sample (variant_with "") must RefusedAt 2 7 1 2)
    -- too long to be read, each by itself, though the other be right or wrong
    ∷ (two_texts long bare must RefusedAt 2 1 7 1) ∷ (two_texts too_long bare must RefusedAt 2 0 0 1)
    ∷ (two_texts too_long too_long must RefusedAt 2 0 0 1) ∷ (two_texts sample long must RefusedAt 2 1 7 2)
    ∷ (two_texts sample too_long must RefusedAt 2 0 0 2) ∷ (two_texts bare too_long must RefusedAt 2 7 1 1)
    ∷ []

pub figures_right : map (λ (f : Figure). answered (given f)) figures ≡ map wanted figures
unfolding figures read_variant variant_form joined_text written_in cut_from read_sheet sheet_form numbers_on numbers_of fits_of
    fits_from empty_lines feeds since_feed
    read_form read_parts read_rows kind_of read_line agreed read_numbers read_entry field_of number_of rest_of
figures_right = refl
