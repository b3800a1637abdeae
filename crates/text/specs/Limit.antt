-- 01, The sheet, the table's limits of a number: a low and a high end; for some, that it is not above the number
-- before; for some, that there may be none, written `-`. 02 (vi): for some, that times the number before it is no more
-- than so much; such a number may be left out of a line. Whatever reads, writes or checks a number goes by these alone.
use Rattle.std.specs.Prelude.{ℕ, ◌*◌, Bool, true, false, ◌&&◌, ◌||◌, List, [], ◌∷◌, eqb, leb, ltb}
-- the code's own, so that its tables are these
use Rattle.text.specs.declared.Limit.{Limit}
use Rattle.text.specs.declared.Rule.{Rule}
use Rattle.text.specs.declared.Rule.TheVariants.{Plain, OrNone, Capped, Product}

-- whether 0 stands for none
abbrev pub or_none : Rule → Bool
or_none Plain = false
or_none OrNone = true
or_none Capped = false
or_none (Product top) = false

-- whether a number is not above the number before it
abbrev pub capped : Rule → Bool
capped Plain = false
capped OrNone = false
capped Capped = true
capped (Product top) = false

-- whether a number, times the one before it, makes at most so much
abbrev pub counts : Rule → Bool
counts Plain = false
counts OrNone = false
counts Capped = false
counts (Product top) = true

abbrev pub limit : ℕ → ℕ → Rule → Limit
limit low high rule = record { low = low; high = high; rule = rule }

-- low..high
abbrev pub ranging : ℕ → ℕ → Limit
ranging low high = limit low high Plain

-- low..high, or none, for which 0 stands among the numbers and `-` in a text
abbrev pub ranging_or_none : ℕ → ℕ → Limit
ranging_or_none low high = limit low high OrNone

-- low..high, and not above the number before it
abbrev pub ranging_capped : ℕ → ℕ → Limit
ranging_capped low high = limit low high Capped

-- low..high, and times the number before it at most top; it may be left out
abbrev pub ranging_count : ℕ → ℕ → ℕ → Limit
ranging_count low high top = limit low high (Product top)

-- whether n is none: a 0 where 0 stands for none
abbrev pub is_none : Limit → ℕ → Bool
is_none l n = or_none l.rule && eqb n 0

-- what the rule asks beyond low..high, of n after last
abbrev pub by_rule : Rule → ℕ → ℕ → Bool
by_rule Plain last n = true
by_rule OrNone last n = ltb 0 n
by_rule Capped last n = leb n last
by_rule (Product top) last n = leb (last * n) top

-- whether n, written in digits after the number last, is within the limit
abbrev pub within : Limit → ℕ → ℕ → Bool
within l last n = leb l.low n && (leb n l.high && by_rule l.rule last n)

-- whether n may stand after last, none included
abbrev pub holds : Limit → ℕ → ℕ → Bool
holds l last n = is_none l n || within l last n

-- whether the numbers of these limits, of which there are some, may be left out
abbrev pub spare : List Limit → Bool
spare [] = false
spare (l ∷ ls) = counts l.rule

-- whether there are as many numbers as limits, but for those that may be left out, and each may stand after the one
-- before it
unfoldable pub all_hold : List Limit → ℕ → List ℕ → Bool
all_hold [] last [] = true
all_hold [] last (n ∷ ns) = false
all_hold (l ∷ ls) last [] = spare (l ∷ ls)
all_hold (l ∷ ls) last (n ∷ ns) = holds l last n && all_hold ls n ns

-- whether any number up to the highest may stand, after whatever number: low..high goes down to 0, or to 1 with 0 for
-- none
unfoldable pub from_zero : Limit → Bool
from_zero l = elim l.rule [ Plain ↦ eqb l.low 0 | OrNone ↦ leb l.low 1 | Capped ↦ false | Product top ↦ false ]
