-- A line reads the same by itself, whatever stands after it: its numbers, or its fault and the fault's place.
use mathlib.Core.Path.{◌≡◌, refl, sym, ap, ◌∙◌}
use mathlib.Core.Bool.{true, true≢false, ◌&&◌, ◌||◌}
use mathlib.Core.List.{List, [], ◌∷◌, ◌++◌}
use Prim.Native.Nat.{ℕ}
use native.Mathlib.Omega.{arith}
use borrow.Author.Tests.{eqb-false}
use lib.Dec.{eqb}
use lib.ListN.{length, take, drop}
use lib.Seq.{take_at, take-append_seam}
use Rattle.ground.proofs.Booleans.{both_hold, by_test, by_equal}
use Rattle.text.specs.Number.{NumberRead}
use Rattle.std.specs.Prelude.{Ok, Err}
use Rattle.text.specs.Read.{Number}
use Rattle.text.specs.Quoted.{tab, feed, dash}
use Rattle.text.specs.Field.{field_of, begins, agreed}
use Rattle.text.specs.Number.{number_of}
use Rattle.text.specs.declared.Limit.{Limit}
use Rattle.text.specs.Limit.{or_none}
use Rattle.text.specs.Line.{Line, ender, stops_short, judged, read_entry, read_numbers, read_line, entry_text}
use Rattle.text.specs.Place.{feeds, first_line}
use Rattle.text.proofs.Field.{begins_cons, field_stop, field_more, field_split, agreed_whole}
use Rattle.text.proofs.Entry.{by_entry}
use Rattle.text.proofs.EntryTrip.{entry_field, entry_back}
use Rattle.text.proofs.Line.{numbers_short, numbers_whole, line_tagged, line_untagged}
use Rattle.text.proofs.Place.{feeds_none, feeds_other, feeds_append}
use Rattle.text.proofs.FirstLine.{first_drop, first_field, first_begins, first_agreed}

-- ---- no line feed in a field, nor in a number as it is written

pub field_feedless : (t : List ℕ) → feeds (field_of t) ≡ 0
unfolding field_of
field_feedless [] = feeds_none
field_feedless (b ∷ t) =
    by_test (eqb b tab || eqb b feed) (λ e. rw (field_stop b t e) feeds_none)
    (λ e.
    let n = by_test (eqb b tab) (λ d. absurd (true≢false (rw d at e))) (λ d. eqb-false b feed (rw d at e)) in
    rw (field_more b t e) (feeds_other b (field_of t) n ∙ field_feedless t))

pub entry_feedless : (l : Limit) (n : ℕ) → feeds (entry_text l n) ≡ 0
entry_feedless l n = rw (entry_field l n feed [] refl) at (field_feedless (entry_text l n ++ (feed ∷ [])))

-- ---- one number, with the byte that must end it

module _ (t : List ℕ) where
  -- what stands after the first field
  past_field : drop (length (field_of t)) (first_line t) ≡ first_line (drop (length (field_of t)) t)
  past_field =
      let f : List ℕ = field_of t in
      let e : take (length f) t ≡ f =
      ap (take (length f)) (sym (field_split t)) ∙ take-append_seam f (drop (length f) t) in
      first_drop (length f) t (ap feeds e ∙ field_feedless t)

  short_alone : (ls : List Limit) → stops_short ls (first_line t) ≡ stops_short ls t
  short_alone ls = rw (first_field t, past_field, first_begins feed (drop (length (field_of t)) t))

  judged_alone : (r : NumberRead) (l : Limit) (last e len : ℕ)
      → judged r l last e len (first_line t) ≡ judged r l last e len t
  judged_alone (Err at) l last e len = refl
  judged_alone (Ok n) l last e len = rw (first_begins e t)

dash_free : (t : List ℕ) → begins dash t ≡ true → feeds (take 1 t) ≡ 0
dash_free t b = rw (begins_cons dash t b) (feeds_other dash [] (λ z. omega arith) ∙ feeds_none)

entry_alone : (l : Limit) (last e : ℕ) (t : List ℕ) → read_entry l last e (first_line t) ≡ read_entry l last e t
unfolding read_entry
entry_alone l last e t =
    let k : ℕ = length (field_of t) in
    by_test (or_none l.rule && begins dash t)
    (λ d.
    let z = dash_free t (both_hold (or_none l.rule) (begins dash t) d).1 in
    rw (first_begins dash t, d, first_drop 1 t z, first_begins e (drop 1 t)))
    (λ d.
    rw (first_begins dash t, d, first_field t, past_field t)
    (judged_alone (drop k t) (number_of (field_of t)) l last e k))

-- a number that a tab ends: no line feed so far
tabbed_free : (l : Limit) (last : ℕ) (t : List ℕ) (n k : ℕ) → read_entry l last tab t ≡ Number n k → feeds (take k t) ≡ 0
tabbed_free l last t n k v =
    let p = (entry_back l last tab t n k v).led in
    let x : List ℕ = entry_text l n ++ (tab ∷ []) in
    let e : take k t ≡ x = ap (take k) p.start ∙ take_at x (drop k t) k (sym p.count) in
    let f = feeds_other tab [] (λ z. omega arith) in
    ap feeds e ∙ omega (arith, feeds_append (entry_text l n) (tab ∷ []), entry_feedless l n, f, feeds_none)

-- ---- the numbers of a line

abbrev Alone : List Limit → Type 0
Alone ls = (last : ℕ) (t : List ℕ) → read_numbers ls last (first_line t) ≡ read_numbers ls last t

-- the numbers after one that was read
rest_alone : (l : Limit) (ls : List Limit) (last : ℕ) (t : List ℕ) (n k : ℕ) → Alone ls
    → read_entry l last (ender ls) t ≡ Number n k
    → read_numbers ls n (drop k (first_line t)) ≡ read_numbers ls n (drop k t)
unfolding read_numbers
rest_alone l [] last t n k a v = refl
rest_alone l (m ∷ ls) last t n k a v = rw (first_drop k t (tabbed_free l last t n k v)) (a n (drop k t))

numbers_alone : (ls : List Limit) → Alone ls
unfolding read_numbers
numbers_alone [] last t = refl
numbers_alone (l ∷ ls) last t =
    by_test (stops_short ls t)
    (λ c.
    let q = numbers_short l ls last (first_line t) (short_alone t ls ∙ c) in
    rw (q, numbers_short l ls last t c, entry_alone l last feed t)
    (by_entry (read_entry l last feed t) (λ n k v. rw v) (λ number at v. rw v)))
    (λ c.
    let q = numbers_whole l ls last (first_line t) (short_alone t ls ∙ c) in
    rw (q, numbers_whole l ls last t c, entry_alone l last (ender ls) t)
    (by_entry (read_entry l last (ender ls) t)
    (λ n k v. rw (v, rest_alone l ls last t n k (numbers_alone ls) v)) (λ number at v. rw v)))

-- ---- a line

pub line_alone : (l : Line) (t : List ℕ) → feeds l.tag ≡ 0 → read_line l (first_line t) ≡ read_line l t
line_alone l t z =
    let tag : List ℕ = l.tag in
    let n : ℕ = length tag in
    let s = first_agreed tag t z in
    by_equal (agreed tag t) n
    (λ a.
    let e : take n t ≡ tag = ap (take n) (agreed_whole tag t a) ∙ take-append_seam tag (drop n t) in
    let d = first_drop n t (ap feeds e ∙ z) in
    rw (line_tagged l (first_line t) (s ∙ a), line_tagged l t a, d, numbers_alone l.limits 0 (drop n t)))
    (λ a. rw (line_untagged l (first_line t) (λ q. a (sym s ∙ q)), line_untagged l t a, s))
