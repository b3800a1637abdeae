-- Worked fields and numbers, computed: one statement over each list of them.
use mathlib.Core.Path.{◌≡◌, refl}
use mathlib.Core.Bool.{true, false}
use mathlib.Core.List.{List, [], ◌∷◌, map}
use Prim.Native.Nat.{ℕ, zero, suc, ◌-◌}
use Prim.Native.String.{String}
use lib.ListN.{length}
use Rattle.std.specs.Prelude.{Ok, Err}
use Rattle.text.specs.Read.{EntryRead}
use Rattle.text.specs.Read.{Number, Misread}
use Rattle.text.specs.Quoted.{bytes, tab}
use Rattle.text.specs.Field.{field_of}
use Rattle.text.specs.Number.{eleven_digits, rest_of, number_of, digits_in, digits_of}
use Rattle.text.specs.declared.Limit.{Limit}
use Rattle.text.specs.declared.Rule.TheVariants.{Plain, OrNone, Capped, Product}
use Rattle.text.specs.Limit.{ranging, ranging_capped, ranging_or_none, ranging_count, spare}
use Rattle.text.specs.Line.{read_entry}
use Rattle.text.proofs.Limits.{limit_at}

-- ---- a number: 1 to 10 digits, no leading zero but 0 itself

numbers_right :
    map (λ (s : String). number_of (bytes s))
    ("0" ∷ "7" ∷ "4294967295" ∷ "4294967296" ∷ "9999999999" ∷ "" ∷ "00" ∷ "07" ∷ "10000000000" ∷ "12x" ∷ "-" ∷ "-1"
    ∷ " 1" ∷ [])
    ≡ Ok 0 ∷ Ok 7 ∷ Ok 4294967295 ∷ Ok 4294967296 ∷ Ok 9999999999 ∷ Err 0 ∷ Err 1
    ∷ Err 1 ∷ Err 10 ∷ Err 2 ∷ Err 0 ∷ Err 0 ∷ Err 0 ∷ []
unfolding number_of rest_of
numbers_right = refl

digits_right :
    map digits_of (0 ∷ 10 ∷ 4294967296 ∷ 9999999999 ∷ [])
    ≡ bytes "0" ∷ bytes "10" ∷ bytes "4294967296" ∷ bytes "9999999999" ∷ []
unfolding digits_of digits_in
digits_right = refl

-- the first number of eleven digits is that
eleven_right : map (λ (n : ℕ). length (digits_of n)) ((eleven_digits - 1) ∷ eleven_digits ∷ []) ≡ 10 ∷ 11 ∷ []
unfolding digits_of digits_in
eleven_right = refl

-- ---- a number with its ending byte: the form with that byte before the limits

record Case : Type 0 where
  limit : Limit
  text : String
  gives : EntryRead

abbrev case : Limit → String → EntryRead → Case
case limit text gives = record { limit = limit; text = text; gives = gives }

-- after the number 4000, ended by a tab
entries : List Case
entries =
    case (ranging 1 24) "24\t" (Number 24 3)
    ∷ case (ranging 1 24) "25\t" (Misread 3 0)
    ∷ case (ranging 1 24) "0\t" (Misread 3 0)
    -- out of limits and ended by the wrong byte: 2, not 3
    ∷ case (ranging 1 24) "25\n" (Misread 2 2)
    ∷ case (ranging 1 24) "25" (Misread 2 2)
    ∷ case (ranging 1 24) "10000000000\t" (Misread 2 10)
    ∷ case (ranging 1 24) "9999999999\t" (Misread 3 0)
    ∷ case (ranging 1 24) "4294967297\t" (Misread 3 0)
    ∷ case (ranging 1 24) "-\t" (Misread 2 0)
    ∷ case (ranging_or_none 1 24) "-\t" (Number 0 2)
    ∷ case (ranging_or_none 1 24) "0\t" (Misread 3 0)
    ∷ case (ranging_or_none 0 24) "0\t" (Misread 3 0)
    ∷ case (ranging_or_none 1 24) "-\n" (Misread 2 1)
    ∷ case (ranging_or_none 1 24) "-5\t" (Misread 2 1)
    ∷ case (ranging_capped 2000 6000) "4000\t" (Number 4000 5)
    ∷ case (ranging_capped 2000 6000) "4001\t" (Misread 3 0)
    ∷ case (ranging_count 1 99 8000) "2\t" (Number 2 2)
    ∷ case (ranging_count 1 99 7999) "2\t" (Misread 3 0)
    ∷ case (ranging_count 1 99 8000) "3\t" (Misread 3 0)
    ∷ case (ranging_count 1 99 8000) "0\t" (Misread 3 0)
    ∷ case (ranging_count 1 99 800000) "99\t" (Number 99 3)
    ∷ case (ranging_count 1 99 800000) "100\t" (Misread 3 0)
    ∷ case (ranging_count 1 99 8000) "-\t" (Misread 2 0)
    ∷ case (ranging_count 0 9 3) "1\t" (Misread 3 0)
    ∷ []

entries_right :
    map (λ (c : Case). read_entry c.limit 4000 tab (bytes c.text)) entries ≡ map (λ (c : Case). c.gives) entries
unfolding entries read_entry field_of number_of rest_of
entries_right = refl

-- ---- a limit as the code's tables have it: low, high and rule; what a table lacks is 0..0

tables_right :
    record { low = 0; high = 1; rule = Plain } ∷ record { low = 1; high = 24; rule = OrNone }
    ∷ record { low = 2000; high = 6000; rule = Capped } ∷ record { low = 1; high = 99; rule = Product 500000 }
    ∷ limit_at [] 0 ∷ []
    ≡ ranging 0 1 ∷ ranging_or_none 1 24 ∷ ranging_capped 2000 6000 ∷ ranging_count 1 99 500000
    ∷ ranging 0 0 ∷ []
tables_right = refl

-- ---- which numbers may be left out: those of a count, and what follows it; where there are none, nothing is

spare_right :
    map spare
    ([] ∷ (ranging 1 9 ∷ []) ∷ (ranging_or_none 1 9 ∷ []) ∷ (ranging_capped 1 9 ∷ []) ∷ (ranging_count 1 9 3 ∷ [])
    ∷ (ranging_count 1 9 500000 ∷ ranging 1 9 ∷ []) ∷ (ranging 1 9 ∷ ranging_count 1 9 500000 ∷ []) ∷ [])
    ≡ false ∷ false ∷ false ∷ false ∷ true ∷ true ∷ false ∷ []
spare_right = refl

-- ---- for the computed statements of the nouns above

-- so many numbers from k on: k, k + 1, ..
unfoldable pub up_from : ℕ → ℕ → List ℕ
up_from zero k = []
up_from (suc n) k = k ∷ up_from n (suc k)
