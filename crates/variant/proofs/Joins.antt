-- 02 (xi): of a parent and a variant that are both right the joined text is one of the sheet's form, and says for each
-- line the variant's own rows, or where it leaves the line out the parent's.
use mathlib.Core.Path.{◌≡◌, sym, ap, ◌∙◌}
use mathlib.Core.Bool.{true, false, true≢false, ◌&&◌}
use mathlib.Core.List.{List, [], ◌∷◌, ◌++◌}
use Prim.Native.Nat.{ℕ}
use native.Mathlib.Omega.{arith}
use lib.ListN.{drop}
use Rattle.ground.proofs.Booleans.{both_hold}
use Rattle.text.specs.Line.{Line}
use Rattle.text.specs.Place.{cut_lines, joined}
use Rattle.text.proofs.Cut.{lines_join, cut_lined}
use Rattle.form.specs.Parts.{Row, Rows, one_line, maybe_line}
use Rattle.form.specs.Writing.{part_ok, parts_ok, rows_text, parts_text}
use Rattle.form.proofs.Letters.{kinds_made}
use Rattle.form.proofs.Made.{apart_none, told, parts_made}
use Rattle.form.proofs.Trip.{told_apart}
use Rattle.sheet.specs.SheetText.{each_once, last_parts}
use Rattle.variant.specs.VariantText.{each_maybe}
use Rattle.variant.specs.Joined.{next_line, has_next, written_in}
use Rattle.variant.specs.JoinedRows.{handed_rows}
use Rattle.variant.proofs.Lines.{all_known, Known, known, line_written, maybe_one, has_next_lem, none_next}

-- ---- the lines that may be handed on

-- the variant has the line, or leaves it out
module _ (l : Line) (ls : List Line) (parents own : List (List ℕ)) where
  pub line_own : has_next l own ≡ true
      → written_in (l ∷ ls) parents own ≡ next_line own ∷ written_in ls (drop 1 parents) (drop 1 own)
  unfolding written_in
  line_own e = rw (e, written_in)

  pub line_handed : has_next l own ≡ false
      → written_in (l ∷ ls) parents own ≡ next_line parents ∷ written_in ls (drop 1 parents) own
  unfolding written_in
  line_handed e = rw (e, written_in)

-- the lines as a variant may have them, and the parts that follow
abbrev Maybes : List Line → List Rows → Type 0
Maybes hs v = (parts_made (each_maybe hs last_parts) ≡ true) × (parts_ok (each_maybe hs last_parts) v ≡ true)

-- a line that is left out is not the next
left_out : (h : Line) (hs : List Line) (v : List Rows) → Known h → Maybes (h ∷ hs) ([] ∷ v)
    → (has_next h (cut_lines (parts_text (each_maybe hs last_parts) v)) ≡ false) × Maybes hs v
unfolding parts_made parts_ok
left_out h hs v k (m, ok) =
    let ms = both_hold (kinds_made (h ∷ [])) (told (maybe_line h) (each_maybe hs last_parts) && _) m in
    let ns = both_hold (told (maybe_line h) (each_maybe hs last_parts)) (parts_made (each_maybe hs last_parts)) ms.1 in
    let oks = both_hold (part_ok (maybe_line h) []) (parts_ok (each_maybe hs last_parts) v) ok in
    let apart = told_apart (maybe_line h) (each_maybe hs last_parts) (omega arith) ns.0 in
    let t : List ℕ = parts_text (each_maybe hs last_parts) v in
    (none_next h t k (apart_none (h ∷ []) (each_maybe hs last_parts) v ns.1 apart oks.1), (ns.1, oks.1))

there : (h : Line) (hs : List Line) (r : Row) (rs : Rows) (v : List Rows) → Maybes (h ∷ hs) ((r ∷ rs) ∷ v)
    → (part_ok (one_line h) (r ∷ rs) ≡ true) × Maybes hs v
unfolding parts_made parts_ok
there h hs r rs v (m, ok) =
    let ms = both_hold (kinds_made (h ∷ [])) (told (maybe_line h) (each_maybe hs last_parts) && _) m in
    let ns = both_hold (told (maybe_line h) (each_maybe hs last_parts)) (parts_made (each_maybe hs last_parts)) ms.1 in
    let oks = both_hold (part_ok (maybe_line h) (r ∷ rs)) (parts_ok (each_maybe hs last_parts) v) ok in
    (maybe_one h r rs oks.0, (ns.1, oks.1))

-- both texts from the place of the first of hs on
pub record Handed (hs : List Line) (ps v : List Rows) : Type 0 where
  pub text :
      joined (written_in hs (cut_lines (parts_text (each_once hs last_parts) ps))
      (cut_lines (parts_text (each_maybe hs last_parts) v)))
      ≡ parts_text (each_once hs last_parts) (handed_rows hs ps v)
  pub within : parts_ok (each_once hs last_parts) (handed_rows hs ps v) ≡ true

pub handed : (hs : List Line) (ps v : List Rows) → all_known hs ≡ true → parts_ok (each_once hs last_parts) ps ≡ true
    → Maybes hs v
    → Handed hs ps v
unfolding written_in handed_rows parts_text parts_ok rows_text
handed [] ps v k p m = record { text = lines_join (parts_text last_parts v); within = m.1 }
handed (h ∷ hs) [] v k p m = absurd (true≢false (sym p))
handed (h ∷ hs) (q ∷ ps) [] k p m = absurd (true≢false (sym m.1))
handed (h ∷ hs) (q ∷ ps) ([] ∷ v) k p m =
    let ks = known h hs k in
    let qs = both_hold (part_ok (one_line h) q) (parts_ok (each_once hs last_parts) ps) p in
    let x : List ℕ = rows_text (h ∷ []) q in
    let u : List ℕ = parts_text (each_once hs last_parts) ps in
    let t : List ℕ = parts_text (each_maybe hs last_parts) v in
    let out = left_out h hs v ks.0 m in
    let ih = handed hs ps v ks.1 qs.1 out.1 in
    let cut = cut_lined x u (line_written h q ks.0 qs.0).ended in
    record {
      text = ap joined (line_handed h hs (cut_lines (x ++ u)) (cut_lines t) out.0)
          ∙ rw cut (ap (λ (y : List ℕ). x ++ y) ih.text);
      within = rw (qs.0, ih.within);
    }
handed (h ∷ hs) (q ∷ ps) ((r ∷ rs) ∷ v) k p m =
    let ks = known h hs k in
    let qs = both_hold (part_ok (one_line h) q) (parts_ok (each_once hs last_parts) ps) p in
    let x : List ℕ = rows_text (h ∷ []) q in
    let u : List ℕ = parts_text (each_once hs last_parts) ps in
    let y : List ℕ = rows_text (h ∷ []) (r ∷ rs) in
    let t : List ℕ = parts_text (each_maybe hs last_parts) v in
    let has = there h hs r rs v m in
    let ih = handed hs ps v ks.1 qs.1 has.1 in
    let line = line_written h (r ∷ rs) ks.0 has.0 in
    let cut = cut_lined x u (line_written h q ks.0 qs.0).ended in
    let cuts = cut_lined y t line.ended in
    record {
      text = ap (λ (c : List (List ℕ)). joined (written_in (h ∷ hs) (cut_lines (x ++ u)) c)) cuts
          ∙ ap joined (line_own h hs (cut_lines (x ++ u)) (y ∷ cut_lines t) (has_next_lem h y (cut_lines t) line))
          ∙ rw cut (ap (λ (z : List ℕ). y ++ z) ih.text);
      within = rw (has.0, ih.within);
    }
