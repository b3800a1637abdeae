-- 01, The sheet: one record a line. A line is its literal bytes and then numbers, each ended by a tab but the last,
-- which is ended by the line feed. Of each number the form comes first, the byte after it included, and the limits
-- second: 2, then 3. 02 (v): beside its number a refusal has a place, that of the first faulty byte, and where a limit
-- is broken the start of the number. 02 (vi): where numbers may be left out, the line feed may end the one before them.
use Rattle.std.specs.Prelude.{ℕ, ◌+◌, ◌≡◌, Bool, true, false, ◌&&◌, cond, List, [], ◌∷◌, ◌++◌, eqb, length, drop, Ok, Err}
use Rattle.std.proofs.lemmas.List.Edits.{sets}
use Rattle.answers.specs.Refusals.{broken_line, outside_limits}
use Rattle.text.specs.Quoted.{tab, feed, dash}
use Rattle.text.specs.Field.{field_of, begins, agreed}
use Rattle.text.specs.Number.{NumberRead, number_of, digits_of}
use Rattle.text.specs.declared.Limit.{Limit}
use Rattle.text.specs.Limit.{or_none, is_none, within, spare}
use Rattle.text.specs.Read.{EntryRead, Number, Misread, LineRead, Taken, Fault, shift_by}

-- a line's form
pub record Line : Type 0 where
  pub tag : List ℕ
  pub limits : List Limit

abbrev pub line_of : List ℕ → List Limit → Line
line_of tag table = record { tag = tag; limits = table }

-- what must end a number, by the limits of the numbers after it
abbrev pub ender : List Limit → ℕ
ender [] = feed
ender (l ∷ ls) = tab

-- whether the line ends with the first field of t, and the numbers of ls are left out of it, as they may be
abbrev pub stops_short : List Limit → List ℕ → Bool
stops_short ls t = spare ls && begins feed (drop (length (field_of t)) t)

-- ---- reading

-- how a reading ended, and the numbers read up to there
pub record Reading : Type 0 where
  pub ended : LineRead
  pub numbers : List ℕ

abbrev pub refused : ℕ → ℕ → Reading
refused number at = record { ended = Fault number at; numbers = [] }

abbrev pub nothing : Reading
nothing = record { ended = Taken 0; numbers = [] }

-- the first k bytes gave ns; then p was read
abbrev pub after : List ℕ → ℕ → Reading → Reading
after ns k p = record { ended = shift_by k p.ended; numbers = ns ++ p.numbers }

-- the number n and k bytes of t are taken, if they are; then the rest is read after n
abbrev pub on_entry : EntryRead → (ℕ → List ℕ → Reading) → List ℕ → Reading
on_entry (Misread number at) rest t = refused number at
on_entry (Number n k) rest t = after (n ∷ []) k (rest n (drop k t))

-- what a field that was read as r gives; len is its length, and t what stands after it
abbrev pub judged : NumberRead → Limit → ℕ → ℕ → ℕ → List ℕ → EntryRead
judged (Err at) l last e len t = Misread broken_line at
judged (Ok n) l last e len t =
    cond (begins e t) (cond (within l last n) (Number n (len + 1)) (Misread outside_limits 0)) (Misread broken_line len)

-- a `-` where there may be none, with the byte that must end it
abbrev pub read_dash : ℕ → List ℕ → EntryRead
read_dash e t = cond (begins e (drop 1 t)) (Number 0 2) (Misread broken_line 1)

-- the number at the start of t, after the number last, with the byte e that must end it
unfoldable pub read_entry : Limit → ℕ → ℕ → List ℕ → EntryRead
read_entry l last e t =
    cond (or_none l.rule && begins dash t) (read_dash e t)
    (judged (number_of (field_of t)) l last e (length (field_of t)) (drop (length (field_of t)) t))

-- numbers by their limits, after the number last
unfoldable pub read_numbers : List Limit → ℕ → List ℕ → Reading
read_numbers [] last t = nothing
read_numbers (l ∷ ls) last t =
    elim (stops_short ls t) [
      | true ↦ on_entry (read_entry l last feed t) (λ (n : ℕ) (u : List ℕ). nothing) t
      | false ↦ on_entry (read_entry l last (ender ls) t) (read_numbers ls) t
    ]

unfoldable pub read_line : Line → List ℕ → Reading
read_line l t =
    elim (eqb (agreed l.tag t) (length l.tag)) [
      | true ↦ after [] (length l.tag) (read_numbers l.limits 0 (drop (length l.tag) t))
      | false ↦ refused broken_line (agreed l.tag t)
    ]

-- ---- writing

abbrev pub entry_text : Limit → ℕ → List ℕ
entry_text l n = cond (is_none l n) (dash ∷ []) (digits_of n)

-- what ends a number that is written: a tab, where both a limit and a number follow it, and else the line feed
abbrev pub closer : List Limit → List ℕ → ℕ
closer [] ns = feed
closer (l ∷ ls) [] = feed
closer (l ∷ ls) (n ∷ ns) = tab

unfoldable pub numbers_text : List Limit → List ℕ → List ℕ
numbers_text [] ns = []
numbers_text (l ∷ ls) [] = []
numbers_text (l ∷ ls) (n ∷ ns) = entry_text l n ++ (closer ls ns ∷ numbers_text ls ns)

-- the line that the first of ns are written as
abbrev pub line_text : Line → List ℕ → List ℕ
line_text l ns = l.tag ++ numbers_text l.limits ns

-- ---- what the code leaves behind; where a lent slice is too short, what would go past its end is dropped

-- the reading p went into the list o
pub record Reads (p : Reading) (o₀ : List ℕ) (r : LineRead) (o : List ℕ) : Type 0 where
  pub answer : r ≡ p.ended
  pub stored : o ≡ sets o₀ 0 p.numbers

-- bs went into o from the place at on, and r is the place after them
pub record Laid (bs o₀ : List ℕ) (at r : ℕ) (o : List ℕ) : Type 0 where
  pub end : r ≡ at + length bs
  pub laid : o ≡ sets o₀ at bs
