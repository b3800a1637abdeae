-- 02 (xi), both texts right: the joined text is right too, never too long and never outside a limit, and says the rows
-- that the variant has, with the parent's for the lines that it leaves out.
use mathlib.Core.Path.{◌≡◌, refl, sym, ap, ◌∙◌}
use mathlib.Core.Bool.{true, true≢false}
use mathlib.Core.List.{List, [], ◌∷◌, ◌++◌}
use Prim.Native.Nat.{ℕ}
use lib.ListN.{length, take, drop}
use Rattle.ground.proofs.Booleans.{both_hold}
use Rattle.text.specs.Line.{Line}
use Rattle.text.specs.Place.{feeds, cut_lines, joined}
use Rattle.text.proofs.Limits.{full, narrow, readable}
use Rattle.text.proofs.Cut.{cut_lined}
use Rattle.form.specs.Parts.{Part, Rows, one_line, kind_of}
use Rattle.form.specs.Outcome.{right}
use Rattle.form.specs.Reading.{read_form}
use Rattle.form.specs.Writing.{part_ok, parts_ok, form_ok, rows_text, parts_text, form_text}
use Rattle.form.proofs.Letters.{line_made, kinds_made}
use Rattle.form.proofs.Made.{disjoint, apart, told, parts_made}
use Rattle.form.proofs.Trip as T
use Rattle.sheet.specs.SheetText.{each_once, last_parts, sheet_form}
use Rattle.sheet.proofs.WellMade.{sheet_made}
use Rattle.variant.specs.VariantText.{own_lines, handed_lines, each_maybe, variant_form}
use Rattle.variant.specs.Joined.{written_in, joined_text}
use Rattle.variant.specs.JoinedRows.{rows_from, joined_rows}
use Rattle.variant.proofs.Lines.{is_known, all_known, known, line_written, lines_after}
use Rattle.variant.proofs.Joins.{handed}

-- ---- with the lines before those that may be handed on

abbrev pub variant_parts : List Line → List Line → List Part
variant_parts ls hs = each_once ls (each_maybe hs last_parts)

abbrev pub sheet_parts : List Line → List Line → List Part
sheet_parts ls hs = each_once ls (each_once hs last_parts)

-- what follows them is right too
pub ok_after : (ls : List Line) (ps : List Part) (v : List Rows) → parts_ok (each_once ls ps) v ≡ true
    → parts_ok ps (drop (length ls) v) ≡ true
unfolding parts_ok
ok_after [] ps v h = h
ok_after (l ∷ ls) ps [] h = absurd (true≢false (sym h))
ok_after (l ∷ ls) ps (rs ∷ v) h =
    ok_after ls ps v (both_hold (part_ok (one_line l) rs) (parts_ok (each_once ls ps) v) h).1

record JoinedFrom (ls hs : List Line) (parents : List (List ℕ)) (ps v : List Rows) : Type 0 where
  text : (cut : List (List ℕ))
      → cut ≡ cut_lines (parts_text (variant_parts ls hs) v)
      → joined (take (length ls) cut ++ written_in hs parents (drop (length ls) cut))
      ≡ parts_text (sheet_parts ls hs) (rows_from ls hs ps v)
  within : parts_ok (sheet_parts ls hs) (rows_from ls hs ps v) ≡ true

module _ (hs : List Line) (ps : List Rows) (ks : all_known hs ≡ true) (ok : parts_ok (each_once hs last_parts) ps ≡ true)
    (made : parts_made (each_maybe hs last_parts) ≡ true) where
  abbrev parents : List (List ℕ)
  parents = cut_lines (parts_text (each_once hs last_parts) ps)

  joined_from : (ls : List Line) (v : List Rows) → all_known ls ≡ true → parts_ok (variant_parts ls hs) v ≡ true
      → JoinedFrom ls hs parents ps v
  unfolding parts_ok parts_text rows_from
  joined_from [] v k h =
      let p = handed hs ps v ks ok (made, h) in
      record { text = λ cut e. rw e p.text; within = p.within }
  joined_from (l ∷ ls) [] k h = absurd (true≢false (sym h))
  joined_from (l ∷ ls) (rs ∷ v) k h =
      let kl = known l ls k in
      let oks = both_hold (part_ok (one_line l) rs) (parts_ok (variant_parts ls hs) v) h in
      let x : List ℕ = rows_text (l ∷ []) rs in
      let t : List ℕ = parts_text (variant_parts ls hs) v in
      let ih = joined_from ls v kl.1 oks.1 in
      let c = cut_lined x t (line_written l rs kl.0 oks.0).ended in
      record {
        text = λ cut e. rw (e, c) (ap (λ (y : List ℕ). x ++ y) (ih.text (cut_lines t) refl));
        within = rw (oks.0, ih.within);
      }

-- ---- the two texts

pub own_known : all_known own_lines ≡ true
unfolding all_known is_known feeds full readable narrow
own_known = refl

pub handed_known : all_known handed_lines ≡ true
unfolding all_known is_known feeds full readable narrow
handed_known = refl

handed_made : parts_made (each_maybe handed_lines last_parts) ≡ true
unfolding parts_made told apart disjoint kinds_made line_made readable narrow kind_of
handed_made = refl

module _ (parent variant : List ℕ) (ps v : List Rows) (p : read_form sheet_form parent ≡ right ps)
    (q : read_form variant_form variant ≡ right v) where
  join : JoinedFrom own_lines handed_lines (drop 6 (cut_lines parent)) (drop 6 ps) v
  unfolding sheet_form variant_form
  join =
      let a = T.reads_written sheet_form parent ps p in
      let b = T.reads_written variant_form variant v q in
      let c = lines_after own_lines (each_once handed_lines last_parts) ps own_known a.1 in
      rw (a.0, c)
      (joined_from handed_lines (drop 6 ps) handed_known (ok_after own_lines (each_once handed_lines last_parts) ps a.1)
      handed_made own_lines v own_known b.1)

  pub joined_text_lem : joined_text parent variant ≡ form_text sheet_form (joined_rows ps v)
  unfolding joined_text sheet_form variant_form
  joined_text_lem = join.text (cut_lines variant) (ap cut_lines (T.reads_written variant_form variant v q).0)

  pub joined_ok : form_ok sheet_form (joined_rows ps v) ≡ true
  unfolding sheet_form
  joined_ok = join.within

  pub joined_said : read_form sheet_form (joined_text parent variant) ≡ right (joined_rows ps v)
  joined_said = ap (read_form sheet_form) joined_text_lem ∙ T.written_reads sheet_form (joined_rows ps v) sheet_made joined_ok
