-- A right parent, after the lines that are always a variant's own: there the lines that it may hand on stand, one after
-- another, and each reads as its rows.
use mathlib.Core.Path.{◌≡◌, sym, ap, ◌∙◌}
use mathlib.Core.Bool.{true, true≢false}
use mathlib.Core.List.{List, [], ◌∷◌, ◌++◌, append-nil}
use Prim.Native.Nat.{ℕ}
use lib.ListN.{length, drop}
use Rattle.ground.proofs.Booleans.{both_hold}
use Rattle.text.specs.Read.{Taken}
use Rattle.text.specs.Line.{Line, read_line, line_text}
use Rattle.text.specs.Place.{after_lines}
use Rattle.text.proofs.LineTrip.{line_forth}
use Rattle.text.proofs.FirstLine.{after_none, after_lined}
use Rattle.form.specs.Parts.{Part, Rows, one_line, numbers_of}
use Rattle.form.specs.Outcome.{right}
use Rattle.form.specs.Reading.{read_form}
use Rattle.form.specs.Writing.{part_ok, parts_ok, rows_text, parts_text}
use Rattle.form.proofs.Single.{single, single_text}
use Rattle.form.proofs.Trip as T
use Rattle.sheet.specs.SheetText.{each_once, last_parts, sheet_form}
use Rattle.variant.specs.VariantText.{own_lines, handed_lines}
use Rattle.variant.specs.JoinedRows.{next_rows}
use Rattle.variant.proofs.Lines.{all_known, known, one_known, line_written}
use Rattle.variant.proofs.JoinedSheet.{ok_after, own_known, handed_known}

-- x is the rest of the parent's text from the first of hs on, and ps its rows from there on
pub record Hands (hs : List Line) (ps : List Rows) (x : List ℕ) : Type 0 where
  pub all : all_known hs ≡ true
  pub within : parts_ok (each_once hs last_parts) ps ≡ true
  pub text : x ≡ parts_text (each_once hs last_parts) ps

after_own : (ls : List Line) (ps : List Part) (v : List Rows) → all_known ls ≡ true → parts_ok (each_once ls ps) v ≡ true
    → after_lines (length ls) (parts_text (each_once ls ps) v) ≡ parts_text ps (drop (length ls) v)
unfolding parts_ok parts_text
after_own [] ps v k h = after_none (parts_text ps v)
after_own (l ∷ ls) ps [] k h = absurd (true≢false (sym h))
after_own (l ∷ ls) ps (rs ∷ v) k h =
    let ks = known l ls k in
    let hs = both_hold (part_ok (one_line l) rs) (parts_ok (each_once ls ps) v) h in
    after_lined (length ls) (rows_text (l ∷ []) rs) (parts_text (each_once ls ps) v)
    (line_written l rs ks.0 hs.0).ended
    ∙ after_own ls ps v ks.1 hs.1

pub hands : (parent : List ℕ) (ps : List Rows) {x : List ℕ} → read_form sheet_form parent ≡ right ps
    → x ≡ after_lines 6 parent
    → Hands handed_lines (drop 6 ps) x
unfolding sheet_form
hands parent ps e is =
    let a = T.reads_written sheet_form parent ps e in
    record {
      all = handed_known;
      within = ok_after own_lines (each_once handed_lines last_parts) ps a.1;
      text =
          is
          ∙ ap (after_lines 6) a.0
          ∙ after_own own_lines (each_once handed_lines last_parts) ps own_known a.1;
    }

module _ (h : Line) (hs : List Line) where
  -- the next of them
  pub next_hands : (ps : List Rows) {x y : List ℕ} → Hands (h ∷ hs) ps x → y ≡ after_lines 1 x → Hands hs (drop 1 ps) y
  unfolding parts_ok
  next_hands ps a is =
      record {
        all = (known h hs a.all).1;
        within = ok_after (h ∷ []) (each_once hs last_parts) ps a.within;
        text = is
            ∙ ap (after_lines 1) a.text
            ∙ after_own (h ∷ []) (each_once hs last_parts) ps (one_known h hs a.all) a.within;
      }

  pub record ReadsAs (ps : List Rows) (x : List ℕ) : Type 0 where
    pub taken : ℕ
    pub ended : (read_line h x).ended ≡ Taken taken
    pub numbers : (read_line h x).numbers ≡ numbers_of (next_rows ps)

  -- the first of them reads as its rows
  pub first_hands : (ps : List Rows) (x : List ℕ) → Hands (h ∷ hs) ps x → ReadsAs ps x
  unfolding parts_ok parts_text numbers_of
  first_hands [] x a = absurd (true≢false (sym a.within))
  first_hands (q ∷ ps) x a =
      let k = (known h hs a.all).0 in
      let o = both_hold (part_ok (one_line h) q) (parts_ok (each_once hs last_parts) ps) a.within in
      let e = single h q o.0 in
      let u : List ℕ = parts_text (each_once hs last_parts) ps in
      let t : rows_text (h ∷ []) q ≡ line_text h e.ns = ap (rows_text (h ∷ [])) e.is ∙ single_text h e.ns in
      let is : x ≡ line_text h e.ns ++ u = a.text ∙ ap (λ (y : List ℕ). y ++ u) t in
      let r = ap (read_line h) is ∙ line_forth h e.ns u k.reads e.held in
      record {
        taken = length (line_text h e.ns);
        ended = rw r;
        numbers = ap (λ p. p.numbers) r ∙ sym (ap numbers_of e.is ∙ append-nil e.ns);
      }
