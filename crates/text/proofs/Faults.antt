-- 01, Refusal numbers: a line is refused with 2 or 3 and with no other number.
use mathlib.Core.Path.{◌≡◌, refl}
use mathlib.Core.Bool.{Bool, true, ◌&&◌, ◌||◌}
use mathlib.Core.Logic.{◌⊎◌, inl, inr}
use mathlib.Core.List.{List, [], ◌∷◌}
use Prim.Native.Nat.{ℕ}
use borrow.Author.Tests.{eqb-true, ne_eqb}
use lib.Dec.{eqb}
use lib.ListN.{length, drop}
use Rattle.answers.specs.Refusals.{broken_line, outside_limits}
use Rattle.text.specs.Number.{NumberRead}
use Rattle.std.specs.Prelude.{Ok, Err}
use Rattle.text.specs.Read.{EntryRead}
use Rattle.text.specs.Read.{Number, Misread}
use Rattle.text.specs.Read.{LineRead}
use Rattle.text.specs.Read.{Taken, Fault}
use Rattle.text.specs.Quoted.{feed, dash}
use Rattle.text.specs.Field.{field_of, begins, agreed}
use Rattle.text.specs.Number.{number_of}
use Rattle.text.specs.declared.Limit.{Limit}
use Rattle.text.specs.Limit.{or_none, within}
use Rattle.text.specs.Line.{Line, Reading, judged, ender, stops_short, read_entry, read_numbers, read_line}
use Rattle.text.specs.Read.{shift_by}
use Rattle.ground.proofs.Booleans.{either, by_test, by_equal}
use Rattle.text.proofs.Entry.{by_entry}
use Rattle.text.proofs.Line.{numbers_short, numbers_whole, line_tagged, line_untagged}

-- whether a number is one of the two
abbrev pub two_or_three : ℕ → Bool
two_or_three number = eqb number broken_line || eqb number outside_limits

pub two_or_three_lem : (number : ℕ) → two_or_three number ≡ true → (number ≡ 2) ⊎ (number ≡ 3)
two_or_three_lem number h =
    by_equal number 2 inl (λ n. inr (eqb-true number 3 (rw (ne_eqb number 2 n) at h)))

-- whether a reading ended well, or with one of them
abbrev by_number : LineRead → Bool
by_number (Taken k) = true
by_number (Fault number at) = two_or_three number

abbrev pub Textual : Reading → Type 0
Textual p = by_number p.ended ≡ true

shifted : (k : ℕ) (r : LineRead) → by_number r ≡ true → by_number (shift_by k r) ≡ true
shifted k (Taken n) h = h
shifted k (Fault number at) h = h

abbrev entry_by : EntryRead → Bool
entry_by (Number n k) = true
entry_by (Misread number at) = two_or_three number

abbrev EntryTextual : EntryRead → Type 0
EntryTextual r = entry_by r ≡ true

judged_textual : (r : NumberRead) (l : Limit) (last e len : ℕ) (t : List ℕ) → EntryTextual (judged r l last e len t)
judged_textual (Err at) l last e len t = refl
judged_textual (Ok n) l last e len t =
    either EntryTextual (begins e t) (either EntryTextual (within l last n) refl refl) refl

entry_textual : (l : Limit) (last e : ℕ) (t : List ℕ) → EntryTextual (read_entry l last e t)
unfolding read_entry
entry_textual l last e t =
    either EntryTextual (or_none l.rule && begins dash t) (either EntryTextual (begins e (drop 1 t)) refl refl)
    (judged_textual (number_of (field_of t)) l last e (length (field_of t)) (drop (length (field_of t)) t))

numbers_textual : (ls : List Limit) (last : ℕ) (t : List ℕ) → Textual (read_numbers ls last t)
unfolding read_numbers
numbers_textual [] last t = refl
numbers_textual (l ∷ ls) last t =
    by_test (stops_short ls t)
    (λ c.
    let h = entry_textual l last feed t in
    let q = numbers_short l ls last t c in
    by_entry (read_entry l last feed t) (λ n k v. rw (q, v) refl) (λ number at v. rw (q, v) (rw v at h)))
    (λ c.
    let h = entry_textual l last (ender ls) t in
    let q = numbers_whole l ls last t c in
    by_entry (read_entry l last (ender ls) t)
    (λ n k v. rw (q, v) (shifted k (read_numbers ls n (drop k t)).ended (numbers_textual ls n (drop k t))))
    (λ number at v. rw (q, v) (rw v at h)))

pub line_textual : (l : Line) (t : List ℕ) → Textual (read_line l t)
line_textual l t =
    let n : ℕ = length l.tag in
    by_equal (agreed l.tag t) n
    (λ e.
    let rest : Reading = read_numbers l.limits 0 (drop n t) in
    rw (line_tagged l t e) (shifted n rest.ended (numbers_textual l.limits 0 (drop n t))))
    (λ e. rw (line_untagged l t e) refl)
