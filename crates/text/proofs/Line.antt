-- Laws of a whole line that is read, and of how far a reading reaches.
use mathlib.Core.Path.{◌≡◌, refl, ap, ◌∙◌}
use mathlib.Core.Logic.{◌≢◌}
use mathlib.Core.Bool.{true, false}
use mathlib.Core.List.{List, [], ◌∷◌}
use Prim.Native.Nat.{ℕ, ◌+◌, ◌-◌, ◌≤◌}
use native.Mathlib.Omega.{arith}
use borrow.Author.Tests.{eq-eqb, ne_eqb}
use lib.ListN.{length, take, drop, length-drop}
use Rattle.answers.specs.Refusals.{broken_line}
use Rattle.ground.proofs.Booleans.{both_hold, by_test, by_equal}
use Rattle.ground.proofs.Stores.{rest_part}
use Rattle.text.specs.Read.{LineRead}
use Rattle.text.specs.Read.{Taken, Fault}
use Rattle.text.specs.Quoted.{feed}
use Rattle.text.specs.declared.Limit.{Limit}
use Rattle.text.specs.Limit.{spare}
use Rattle.text.specs.Field.{field_of, begins, agreed}
use Rattle.text.specs.Line.{Line, line_of, Reads, after, nothing, refused, ender, stops_short, on_entry}
use Rattle.text.specs.Read.{shift_by}
use Rattle.text.specs.Line.{read_entry, read_numbers, read_line}
use Rattle.text.proofs.Field.{agreed_fits}
use Rattle.text.proofs.Entry.{reach, entry_reach, by_entry}

-- ---- a number, and then those after it, unless they are left out

module _ (l : Limit) (ls : List Limit) (last : ℕ) (t : List ℕ) where
  pub numbers_short : stops_short ls t ≡ true
      → read_numbers (l ∷ ls) last t ≡ on_entry (read_entry l last feed t) (λ (n : ℕ) (u : List ℕ). nothing) t
  unfolding read_numbers
  numbers_short e = rw (e, read_numbers)

  pub numbers_whole : stops_short ls t ≡ false
      → read_numbers (l ∷ ls) last t ≡ on_entry (read_entry l last (ender ls) t) (read_numbers ls) t
  unfolding read_numbers
  numbers_whole e = rw (e, read_numbers)

-- what is left out may be
pub short_spare : (ls : List Limit) (t : List ℕ) → stops_short ls t ≡ true → spare ls ≡ true
short_spare ls t e = (both_hold (spare ls) (begins feed (drop (length (field_of t)) t)) e).0

-- ---- a whole line

module _ (l : Line) (t : List ℕ) where
  pub line_tagged : agreed l.tag t ≡ length l.tag
      → read_line l t ≡ after [] (length l.tag) (read_numbers l.limits 0 (drop (length l.tag) t))
  unfolding read_line
  line_tagged e = rw (eq-eqb (agreed l.tag t) (length l.tag) e, read_line)

  pub line_untagged : agreed l.tag t ≢ length l.tag → read_line l t ≡ refused broken_line (agreed l.tag t)
  unfolding read_line
  line_untagged e = rw (ne_eqb (agreed l.tag t) (length l.tag) e, read_line)

-- ---- how far a reading reaches into its text

abbrev pub extent : LineRead → ℕ
extent (Taken n) = n
extent (Fault number at) = at

pub extent_shift : (k : ℕ) (r : LineRead) → extent (shift_by k r) ≡ k + extent r
extent_shift k (Taken n) = refl
extent_shift k (Fault number at) = refl

numbers_extent : (ls : List Limit) (last : ℕ) (t : List ℕ) → extent (read_numbers ls last t).ended ≤ length t
unfolding read_numbers
numbers_extent [] last t = omega arith
numbers_extent (l ∷ ls) last t =
    by_test (stops_short ls t)
    (λ c.
    let h = entry_reach l last feed t in
    let q = numbers_short l ls last t c in
    by_entry (read_entry l last feed t) (λ n k v. rw (q, v) (omega (arith, ap reach v)))
    (λ number at v. rw (q, v) (omega (arith, ap reach v))))
    (λ c.
    let h = entry_reach l last (ender ls) t in
    let q = numbers_whole l ls last t c in
    by_entry (read_entry l last (ender ls) t)
    (λ n k v.
    let s = extent_shift k (read_numbers ls n (drop k t)).ended in
    rw (q, v) (omega (arith, ap reach v, numbers_extent ls n (drop k t), length-drop k t)))
    (λ number at v. rw (q, v) (omega (arith, ap reach v))))

pub line_extent : (l : Line) (t : List ℕ) → extent (read_line l t).ended ≤ length t
line_extent l t =
    let n : ℕ = length l.tag in
    by_equal (agreed l.tag t) n
    (λ d.
    let s = extent_shift n (read_numbers l.limits 0 (drop n t)).ended in
    let r = numbers_extent l.limits 0 (drop n t) in
    rw (line_tagged l t d) (omega (arith, length-drop n t, agreed_fits l.tag t)))
    (λ d. rw (line_untagged l t d) (agreed_fits l.tag t))

-- ---- what the line reader leaves

-- the text starts with the tag
pub record Tagged (tag : List ℕ) (table : List Limit) (t : List ℕ) : Type 0 where
  pub whole : agreed tag t ≡ length tag

pub reads_untagged : (tag : List ℕ) (table : List Limit) (t o : List ℕ) (same : ℕ)
    → same ≡ agreed tag t
    → same ≢ length tag
    → Reads (read_line (line_of tag table) t) o (Fault broken_line same) o
reads_untagged tag table t o same q n =
    let e : read_line (line_of tag table) t ≡ refused broken_line same =
    line_untagged (line_of tag table) t (λ (d : agreed tag t ≡ length tag). n (q ∙ d)) ∙ rw q in
    record { answer = rw e; stored = rw e }

module _ {tag : List ℕ} {table : List Limit} {t : List ℕ} (g : Tagged tag table t) where
  pub tag_fits : length tag ≤ length t
  tag_fits = omega (arith, g.whole, agreed_fits tag t)

  module _ {r : LineRead} {o₀ o : List ℕ}
      (p : Reads (read_numbers table 0 (take (length t - length tag) (drop (length tag) t))) o₀ r o) where
    -- what is left to read, as the reader was lent it
    lent : Reads (read_numbers table 0 (drop (length tag) t)) o₀ r o
    lent = rw rest_part at p

    pub reads_tagged : Reads (read_line (line_of tag table) t) o₀ (shift_by (length tag) r) o
    reads_tagged =
        let e = line_tagged (line_of tag table) t g.whole in
        record { answer = rw (e, lent.answer); stored = lent.stored ∙ rw e }

    pub tagged_in : length tag + extent r ≤ length t
    tagged_in =
        let e = ap extent lent.answer in
        omega (arith, numbers_extent table 0 (drop (length tag) t), length-drop (length tag) t, tag_fits)
