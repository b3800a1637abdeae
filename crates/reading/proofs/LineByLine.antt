-- The lines HULL to SEAT, read one after another.
use mathlib.Core.Path.{◌≡◌, refl, sym, ap, ◌∙◌}
use mathlib.Core.Bool.{Bool, true, ◌&&◌}
use mathlib.Core.List.{List, [], ◌∷◌, ◌++◌}
use Prim.Native.Nat.{ℕ, ◌+◌, ◌-◌, ◌<◌}
use native.Mathlib.Omega.{arith}
use borrow.Author.Tests.{leb-true}
use lib.Dec.{eqb, leb}
use lib.ListN.{length, drop, replicate, length-append, length-drop, length-replicate}
use lib.Seq.{sets, drop-drop, length-take-le}
use Rattle.text.specs.declared.Limit.{Limit}
use Rattle.text.specs.Read.{LineRead}
use Rattle.text.specs.Read.{Taken, Fault}
use Rattle.text.specs.Line.{Line, read_line}
use Rattle.text.specs.Read.{shift_by}
use Rattle.ground.proofs.Booleans.{both_hold, by_test}
use Rattle.ground.proofs.Stores.{sets_append}
use Rattle.text.proofs.Limits.{full}
use Rattle.form.specs.Parts.{Rows, numbers_of}
use Rattle.form.specs.Outcome.{Found, took, lost, mapped, ahead}
use Rattle.form.specs.Reading.{read_parts}
use Rattle.sheet.specs.Lines.{lines}
use Rattle.sheet.specs.Sheet.{limits_on}
use Rattle.sheet.specs.Places.{text_words, fittings_at}
use Rattle.sheet.specs.SheetText.{each_once, numbers_on, last_parts}
use Rattle.reading.specs.Steps.{line_from, lines_at, Next, ReadsOn, onward, rest_on, going_on, many_read, Past}
use Rattle.reading.proofs.Found.{onward_none, onward_twice}
use Rattle.reading.proofs.Row.{line_count, one_taken, one_lost}

-- the numbers of a line's rows, and then those of the rest
numbers_ahead : (l : Line) (ls : List Line) (k : ℕ) (rs : Rows) (f : Found (List Rows))
    → mapped (numbers_on (l ∷ ls)) (ahead k rs f) ≡ onward (numbers_of rs) k (mapped (numbers_on ls) f)
unfolding numbers_on
numbers_ahead l ls k rs (took j v) = refl
numbers_ahead l ls k rs (lost number at) = refl

-- a sheet from a line on: the line, and then the rest
line_first : (l : Line) (ls : List Line) (t : List ℕ) → 0 < length l.tag
    → rest_on (l ∷ ls) t ≡ going_on (read_line l t).ended (read_line l t).numbers (rest_on ls) t
unfolding rest_on read_parts
line_first l ls t h = go (read_line l t).ended refl
  where
    go : (r : LineRead) → (read_line l t).ended ≡ r
        → rest_on (l ∷ ls) t ≡ going_on (read_line l t).ended (read_line l t).numbers (rest_on ls) t
    go (Taken k) e =
        let f = one_taken l t h e in
        rw (e, f.1, ← f.2) (numbers_ahead l ls k f.0
        (read_parts (each_once ls last_parts) (drop k t)))
    go (Fault number at) e = rw (e, one_lost l t h e)

pub no_lines : (t o : List ℕ) → o ≡ replicate text_words 0 → Past t 0 (Taken 0) o
no_lines t o z =
    record {
      so = [];
      goes = sym (onward_none (rest_on lines t));
      stored = z;
      many = refl;
      room = ap length z ∙ length-replicate {A = ℕ} text_words 0;
      within = omega arith;
    }

-- ---- the next line: each has a tag, and no number that may be left out

abbrev whole : Line → Bool
whole l = leb 1 (length l.tag) && full l.limits

abbrev all_whole : List Line → Bool
all_whole [] = true
all_whole (l ∷ ls) = whole l && all_whole ls

lines_whole : all_whole lines ≡ true
unfolding full
lines_whole = refl

whole_at : (n : ℕ) (ls : List Line) → all_whole ls ≡ true → all_whole (lines_at n ls) ≡ true
whole_at n [] h = refl
whole_at n (l ∷ ls) h =
    by_test (eqb n 0) (λ e. rw (lines_at, e) h)
    (λ e. rw (lines_at, e) (whole_at (n - length l.limits) ls (both_hold (whole l) (all_whole ls) h).1))

-- one line more
module _ {tag t o : List ℕ} {from to k : ℕ} (q : Next tag from to) (a : Past t from (Taken k) o) where
  abbrev l : Line
  l = line_from tag from to

  abbrev so' : List ℕ
  so' = a.so ++ (read_line l (drop k t)).numbers

  is_whole : whole l ≡ true
  is_whole = (both_hold (whole l) (all_whole (lines_at to lines)) (rw q.is at (whole_at from lines lines_whole))).0

  tagged : 0 < length l.tag
  tagged = omega (arith, leb-true 1 (length l.tag) (both_hold (leb 1 (length l.tag)) (full l.limits) is_whole).0)

  ended : from + length l.limits ≡ to
  unfolding limits_on
  ended =
      let rows : List Limit = drop from (limits_on lines) in
      let many : length (limits_on lines) ≡ 1 + fittings_at = refl in
      let n : length l.limits ≡ to - from =
      length-take-le (to - from) rows (omega (arith, q.end, many, length-drop from (limits_on lines))) in
      omega (arith, n, q.order)

  more_goes : (r : LineRead) → (read_line l (drop k t)).ended ≡ r
      → rest_on lines t ≡ going_on (shift_by k r) so' (rest_on (lines_at to lines)) t
  more_goes (Taken j) e =
      a.goes ∙ rw (q.is, line_first l (lines_at to lines) (drop k t) tagged, e, drop-drop j k t)
      (onward_twice a.so (read_line l (drop k t)).numbers k j (rest_on (lines_at to lines) (drop (k + j) t)))
  more_goes (Fault number at) e = a.goes ∙ rw (q.is, line_first l (lines_at to lines) (drop k t) tagged, e)

  more_many : (r : LineRead) → (read_line l (drop k t)).ended ≡ r → many_read (shift_by k r) (length so') to ≡ to
  more_many (Taken j) e =
      let f = (both_hold (leb 1 (length l.tag)) (full l.limits) is_whole).1 in
      omega (
        arith,
        a.many,
        ended,
        length-append a.so (read_line l (drop k t)).numbers,
        line_count l (drop k t) f e,
      )
  more_many (Fault number at) e = refl

  pub one_more : {o' : List ℕ} {r : LineRead} → ReadsOn k l t from o r o' → Past t to r o'
  one_more b =
      let ns = (read_line l (drop k t)).numbers in
      let z : from ≡ 0 + length a.so = omega (arith, a.many) in
      let zeros : List ℕ = replicate text_words 0 in
      record {
        so = so';
        goes = rw b.answer (more_goes (read_line l (drop k t)).ended refl);
        stored =
            b.stored ∙ ap (λ (x : List ℕ). sets x from ns) a.stored ∙ ap (λ (i : ℕ). sets (sets zeros 0 a.so) i ns) z
            ∙ sym (sets_append zeros 0 a.so ns);
        many = rw b.answer (more_many (read_line l (drop k t)).ended refl);
        room = b.kept;
        within = b.within;
      }

-- after a fault no line is read, however many are left
pub gone : {t o : List ℕ} {from to number at : ℕ} → Past t from (Fault number at) o → Past t to (Fault number at) o
gone a = record { so = a.so; goes = a.goes; stored = a.stored; many = refl; room = a.room; within = a.within }

pub ruleset line_laws = (no_lines, gone)
