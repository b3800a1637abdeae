-- Parents and variants of 01's printed sheet, from which every computed sample here takes its texts; and what two texts
-- must be answered.
use mathlib.Core.List.{List, ◌++◌}
use Prim.Native.Nat.{ℕ}
use Prim.Native.String.{String}
use Rattle.text.specs.Quoted.{bytes}
use Rattle.variant.specs.Answered.{Answered, read_answer}
use Rattle.sheet.proofs.BaseHull.{hull, form, stations}
use Rattle.variant.specs.Given.{Given, read_given, text_at}

-- ---- variants

-- the sheet's lines from HULL to STN T, and then what is given
abbrev pub variant_with : String → List ℕ
variant_with rest = bytes hull ++ (bytes form ++ (stations ++ bytes rest))

-- ---- another parent, all of whose numbers are its own

abbrev pub other_start : List ℕ
other_start =
    bytes "HULL\t9\nFORM\t5100\t4100\t1300\t600\t1\t0\nSTN\tQ\t901\t401\t402\t403\t404\t405\t406\n"
    ++ bytes "STN\tR\t902\t411\t412\t413\t414\t415\t416\nSTN\tS\t903\t421\t422\t423\t424\t425\t426\n"
    ++ bytes "STN\tT\t904\t431\t432\t433\t434\t435\t436\n"

abbrev pub other_vol : String
other_vol = "VOL\t11\t12\t13\n"

abbrev pub other_mass : String
other_mass = "MASS\t21\t22\t23\n"

abbrev pub other_power : String
other_power = "PWR\t0\t31\n"

abbrev pub other_seats : String
other_seats = "SEAT\t8\t7\n"

-- what follows its STN lines given
abbrev pub other_with : String → List ℕ
other_with rest = other_start ++ bytes rest

abbrev pub other : List ℕ
other = other_with "VOL\t11\t12\t13\nMASS\t21\t22\t23\nPWR\t0\t31\nSEAT\t8\t7\nFIT\t3\t33\t3\nEND\n"

-- ---- what is answered

-- with which text, where one is refused
abbrev pub answered : Given → Answered
answered g = read_answer (text_at g) (read_given g)

infix 5 ◌must◌
pub data Figure : Type 0 where
  ◌must◌ : Given → Answered → Figure

abbrev pub given : Figure → Given
given (g must a) = g

abbrev pub wanted : Figure → Answered
wanted (g must a) = a
