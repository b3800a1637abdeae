-- 02 (xi): a text of a sheet is a variant that leaves no line out, and the other way. It joins to itself, whatever the
-- parent's bytes are, and with a right parent says what it says alone. And no joined text is too long to be read.
use mathlib.Core.Path.{◌≡◌, refl, sym, ap, ◌∙◌}
use mathlib.Core.Bool.{true, true≢false}
use mathlib.Core.List.{List, [], ◌∷◌, ◌++◌}
use Prim.Native.Nat.{ℕ, ◌≤◌}
use lib.ListN.{length, take, drop, take-append-drop}
use Rattle.ground.proofs.Booleans.{both_hold}
use Rattle.text.specs.Line.{Line}
use Rattle.text.specs.Place.{cut_lines, joined}
use Rattle.text.proofs.Cut.{lines_join, cut_lined}
use Rattle.form.specs.Parts.{Rows, one_line}
use Rattle.form.specs.Outcome.{right, saying}
use Rattle.form.specs.Reading.{read_form}
use Rattle.form.specs.Writing.{part_ok, parts_ok, rows_text, parts_text}
use Rattle.form.proofs.Verdict.{saying_right}
use Rattle.form.proofs.Trip as T
use Rattle.sheet.specs.SheetText.{each_once, last_parts, sheet_form, sheet_of, read_sheet}
use Rattle.sheet.proofs.Places.{sheet_places, sheet_longest}
use Rattle.variant.specs.VariantText.{own_lines, handed_lines, variant_form, read_variant}
use Rattle.variant.specs.Joined.{written_in, joined_text}
use Rattle.variant.specs.Given.{two_texts, read_given}
use Rattle.variant.proofs.Lines.{all_known, known, line_written, has_next_lem, lines_after}
use Rattle.variant.proofs.Joins.{line_own}
use Rattle.variant.proofs.JoinedSheet.{ok_after, own_known, handed_known}
use Rattle.variant.proofs.Given.{both_read}
use Rattle.variant.proofs.Once.{none_left_out, sheet_variant, variant_sheet, sheet_there}

-- ---- a sheet's text, and a variant that leaves no line out

-- t, which says the sheet s, is a variant with every line, and says the same rows
pub record FullVariant (t s : List ℕ) : Type 0 where
  pub rows : List Rows
  pub read : read_variant t ≡ right rows
  pub there : none_left_out rows ≡ true
  pub says : s ≡ sheet_of rows

pub full_right : (t s : List ℕ) → read_sheet t ≡ right s → FullVariant t s
unfolding read_sheet read_variant
full_right t s e =
    let (v, said, is) = saying_right sheet_of (read_form sheet_form t) s e in
    record {
      rows = v;
      read = ap (saying (λ (w : List Rows). w)) (sheet_variant t v said);
      there = sheet_there t v said;
      says = is;
    }

pub whole_variant : (t : List ℕ) (v : List Rows) → read_variant t ≡ right v → none_left_out v ≡ true
    → read_sheet t ≡ right (sheet_of v)
unfolding read_sheet read_variant
whole_variant t v e there =
    let (w, said, same) = saying_right (λ (w : List Rows). w) (read_form variant_form t) v e in
    ap (saying sheet_of) (variant_sheet t v (said ∙ ap right (sym same)) there)

-- ---- it joins to itself

own_stay : (hs : List Line) (parents : List (List ℕ)) (v : List Rows) {c : List (List ℕ)} → all_known hs ≡ true
    → parts_ok (each_once hs last_parts) v ≡ true
    → c ≡ cut_lines (parts_text (each_once hs last_parts) v)
    → written_in hs parents c ≡ c
unfolding written_in parts_ok parts_text
own_stay [] parents v k h e = refl
own_stay (l ∷ hs) parents [] k h e = absurd (true≢false (sym h))
own_stay (l ∷ hs) parents (rs ∷ v) k h e =
    let ks = known l hs k in
    let a = both_hold (part_ok (one_line l) rs) (parts_ok (each_once hs last_parts) v) h in
    let x : List ℕ = rows_text (l ∷ []) rs in
    let t : List ℕ = parts_text (each_once hs last_parts) v in
    let line = line_written l rs ks.0 a.0 in
    let cut = e ∙ cut_lined x t line.ended in
    rw cut
    (line_own l hs parents (x ∷ cut_lines t) (has_next_lem l x (cut_lines t) line)
    ∙ ap (λ (c : List (List ℕ)). x ∷ c) (own_stay hs (drop 1 parents) v ks.1 a.1 refl))

pub full_joins : (parent variant s : List ℕ) → read_sheet variant ≡ right s → joined_text parent variant ≡ variant
unfolding read_sheet joined_text sheet_form
full_joins parent variant s e =
    let (v, said, is) = saying_right sheet_of (read_form sheet_form variant) s e in
    let a = T.reads_written sheet_form variant v said in
    let c = ap (λ t. drop 6 (cut_lines t)) a.0
    ∙ lines_after own_lines (each_once handed_lines last_parts) v own_known a.1 in
    let stay = own_stay handed_lines (drop 6 (cut_lines parent)) (drop 6 v) handed_known
    (ok_after own_lines (each_once handed_lines last_parts) v a.1) c in
    ap (λ (xs : List (List ℕ)). joined (take 6 (cut_lines variant) ++ xs)) stay
    ∙ ap joined (take-append-drop 6 (cut_lines variant))
    ∙ lines_join variant

-- ---- both right

module _ (parent variant s : List ℕ) (p : read_sheet parent ≡ right s) where
  pub full_reads : (u : List ℕ) → read_sheet variant ≡ right u
      → read_given (two_texts parent variant) ≡ read_sheet variant
  full_reads u e =
      let f = full_right variant u e in
      (both_read parent variant s p f.rows f.read).read ∙ ap read_sheet (full_joins parent variant u e)

  -- no joined text is longer than a sheet's
  pub joined_short : (v : List Rows) → read_variant variant ≡ right v → length (joined_text parent variant) ≤ 1439
  joined_short v e =
      let b = both_read parent variant s p v e in
      sheet_longest (joined_text parent variant)
      (sheet_places.accepted (joined_text parent variant) b.sheet b.joined).1.by_rules
