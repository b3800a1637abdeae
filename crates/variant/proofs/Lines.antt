-- The lines of a text that is written: each has its tag, and one line feed, at its end; so the text is cut where one
-- line ends and the next begins.
use mathlib.Core.Path.{◌≡◌, refl, sym, ap, ◌∙◌}
use mathlib.Core.Bool.{Bool, true, false, true≢false, ◌&&◌}
use mathlib.Core.List.{List, [], ◌∷◌, ◌++◌, append-nil, append_assoc}
use mathlib.Core.Option.{none, none-ne-some}
use Prim.Native.Nat.{ℕ, ◌<◌}
use native.Mathlib.Omega.{arith}
use borrow.Author.Tests.{eqb-true, ltb-true, eq-eqb, ne_eqb}
use lib.Dec.{eqb, ltb}
use lib.ListN.{length, drop}
use Rattle.ground.proofs.Booleans.{both_hold, by_test, by_equal}
use Rattle.text.specs.Quoted.{feed}
use Rattle.text.specs.Field.{begins, agreed}
use Rattle.text.specs.Limit.{all_hold}
use Rattle.text.specs.Line.{Line, numbers_text, line_text}
use Rattle.text.specs.Place.{feeds, cut_from, cut_lines, first_line}
use Rattle.text.proofs.Limits.{full, readable, hold_length}
use Rattle.text.proofs.Field.{agreed_self}
use Rattle.text.proofs.Cut.{OneFeed, cut_none, cut_feed, cut_other, cut_lined}
use Rattle.text.proofs.FirstLine.{first_none, first_feed, first_other, first_agreed}
use Rattle.form.specs.Parts.{Part, Row, Rows, one_line, maybe_line, letter_of}
use Rattle.form.specs.Reading.{kind_at}
use Rattle.form.specs.Writing.{rows_ok, part_ok, parts_ok, rows_text, parts_text}
use Rattle.form.proofs.Letters.{kind_here}
use Rattle.form.proofs.OneLine.{none_agreed}
use Rattle.form.proofs.Held.{part_held, held_part}
use Rattle.form.proofs.Single.{single, single_text}
use Rattle.sheet.specs.SheetText.{each_once}
use Rattle.sheet.proofs.Lined.{line_lined}
use Rattle.variant.specs.Joined.{next_line, has_next}

-- ---- lines that have a tag and a number, the tag without a line feed

unfoldable pub is_known : Line → Bool
is_known l =
    eqb (feeds l.tag) 0
    && (ltb 0 (length l.tag) && (ltb 0 (length l.limits) && (full l.limits && readable l.limits)))

unfoldable pub all_known : List Line → Bool
all_known [] = true
all_known (l ∷ ls) = is_known l && all_known ls

pub record Known (l : Line) : Type 0 where
  pub free : feeds l.tag ≡ 0
  pub tagged : 0 < length l.tag
  pub some : 0 < length l.limits
  pub all : full l.limits ≡ true
  pub reads : readable l.limits ≡ true

pub known : (l : Line) (ls : List Line) → all_known (l ∷ ls) ≡ true → Known l × (all_known ls ≡ true)
unfolding is_known all_known
known l ls h =
    let a = both_hold (is_known l) (all_known ls) h in
    let b = both_hold (eqb (feeds l.tag) 0) _ a.0 in
    let c = both_hold (ltb 0 (length l.tag)) _ b.1 in
    let d = both_hold (ltb 0 (length l.limits)) _ c.1 in
    let e = both_hold (full l.limits) (readable l.limits) d.1 in (
      record {
        free = eqb-true (feeds l.tag) 0 b.0;
        tagged = ltb-true 0 (length l.tag) c.0;
        some = ltb-true 0 (length l.limits) d.0;
        all = e.0;
        reads = e.1;
      },
      a.1,
    )

pub one_known : (l : Line) (ls : List Line) → all_known (l ∷ ls) ≡ true → all_known (l ∷ []) ≡ true
unfolding all_known
one_known l ls h = rw (both_hold (is_known l) (all_known ls) h).0

-- ---- one of them, as it is written

one_feed : (l : Line) (ns : List ℕ) → Known l → all_hold l.limits 0 ns ≡ true → OneFeed (line_text l ns)
one_feed l [] k h =
    let some = k.some in absurd (omega (arith, hold_length l.limits 0 [] k.all h))
one_feed l (n ∷ ns) k h =
    let p = line_lined l n ns k.free h in record { before = p.before; free = p.free; whole = p.whole }

-- what the rows of one line are written as
pub record OneLine (l : Line) (x : List ℕ) : Type 0 where
  pub ended : OneFeed x
  pub has : agreed l.tag x ≡ length l.tag

pub line_written : (l : Line) (rs : Rows) → Known l → part_ok (one_line l) rs ≡ true → OneLine l (rows_text (l ∷ []) rs)
line_written l rs k h =
    let e = single l rs h in
    let t : rows_text (l ∷ []) rs ≡ line_text l e.ns = ap (rows_text (l ∷ [])) e.is ∙ single_text l e.ns in
    rw t (record {
      ended = one_feed l e.ns k e.held;
      has = agreed_self l.tag (numbers_text l.limits e.ns);
    })

-- a line that may be there, and is
pub maybe_one : (l : Line) (r : Row) (rs : Rows) → part_ok (maybe_line l) (r ∷ rs) ≡ true
    → part_ok (one_line l) (r ∷ rs) ≡ true
unfolding rows_ok
maybe_one l r [] h =
    held_part (one_line l) (r ∷ []) (omega arith) (omega arith) (part_held (maybe_line l) (r ∷ []) h).held
maybe_one l r (q ∷ rs) h =
    let few = (part_held (maybe_line l) (r ∷ q ∷ rs) h).few in absurd (omega arith)

-- ---- the next line

next_from : (x t : List ℕ) → next_line (cut_from x t) ≡ x ++ first_line t
next_from x [] = rw (cut_none x, first_none) (sym (append-nil x))
next_from x (b ∷ t) =
    by_equal b feed (λ e. rw (e, cut_feed x t, first_feed t))
    (λ n. rw (cut_other x b t n, first_other b t n)
    (next_from (x ++ (b ∷ [])) t ∙ append_assoc x (b ∷ []) (first_line t)))

pub next_first : (t : List ℕ) → next_line (cut_lines t) ≡ first_line t
next_first t = next_from [] t

-- it has the tag of l, or does not begin as l
pub has_next_lem : (l : Line) (x : List ℕ) (xs : List (List ℕ)) → OneLine l x → has_next l (x ∷ xs) ≡ true
has_next_lem l x xs o = eq-eqb (agreed l.tag x) (length l.tag) o.has

pub none_next : (l : Line) (t : List ℕ) → Known l → kind_at (l ∷ []) t ≡ none → has_next l (cut_lines t) ≡ false
none_next l t k e =
    by_test (begins (letter_of l) t)
    (λ b. absurd (none-ne-some l (sym e ∙ kind_here l t b)))
    (λ b.
    let z : agreed l.tag (next_line (cut_lines t)) ≡ 0 =
    ap (agreed l.tag) (next_first t) ∙ first_agreed l.tag t k.free
    ∙ none_agreed l.tag t k.tagged b in
    let some = k.tagged in
    ne_eqb (agreed l.tag (next_line (cut_lines t))) (length l.tag) (λ d. omega arith))

-- ---- after some lines

pub lines_after : (ls : List Line) (ps : List Part) (v : List Rows) → all_known ls ≡ true
    → parts_ok (each_once ls ps) v ≡ true
    → drop (length ls) (cut_lines (parts_text (each_once ls ps) v)) ≡ cut_lines (parts_text ps (drop (length ls) v))
unfolding parts_ok parts_text
lines_after [] ps v k h = refl
lines_after (l ∷ ls) ps [] k h = absurd (true≢false (sym h))
lines_after (l ∷ ls) ps (rs ∷ v) k h =
    let ks = known l ls k in
    let hs = both_hold (part_ok (one_line l) rs) (parts_ok (each_once ls ps) v) h in
    let x : List ℕ = rows_text (l ∷ []) rs in
    rw (cut_lined x (parts_text (each_once ls ps) v) (line_written l rs ks.0 hs.0).ended)
    (lines_after ls ps v ks.1 hs.1)
