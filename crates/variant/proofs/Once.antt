-- A line that may be there, and is, is written as one that must be: so the rows of a sheet's text and those of a
-- variant that leaves none of its lines out are the same, with the same text.
use mathlib.Core.Path.{◌≡◌, refl, sym, ap, ◌∙◌}
use mathlib.Core.Bool.{Bool, true, false, true≢false}
use mathlib.Core.List.{List, [], ◌∷◌, ◌++◌}
use Prim.Native.Nat.{ℕ}
use native.Mathlib.Omega.{arith}
use lib.ListN.{length, drop}
use Rattle.ground.proofs.Booleans.{both_hold}
use Rattle.text.specs.Line.{Line}
use Rattle.form.specs.Parts.{Part, Rows, one_line, maybe_line}
use Rattle.form.specs.Outcome.{right}
use Rattle.form.specs.Reading.{read_form}
use Rattle.form.specs.Writing.{rows_ok, part_ok, parts_ok, form_ok, rows_text, parts_text, form_text}
use Rattle.form.proofs.Held.{part_held, held_part}
use Rattle.form.proofs.Trip as T
use Rattle.sheet.specs.SheetText.{each_once, last_parts, sheet_form}
use Rattle.sheet.proofs.WellMade.{sheet_made}
use Rattle.variant.specs.VariantText.{own_count, own_lines, handed_lines, each_maybe, variant_form}
use Rattle.variant.proofs.WellMade.{variant_made}
use Rattle.variant.proofs.Lines.{maybe_one}
use Rattle.variant.proofs.JoinedSheet.{ok_after}

-- ---- the lines there, each once

-- whether each of the lines hs has a row among v, which are theirs and those that follow
unfoldable pub each_there : List Line → List Rows → Bool
each_there [] v = true
each_there (h ∷ hs) [] = false
each_there (h ∷ hs) ([] ∷ v) = false
each_there (h ∷ hs) ((r ∷ rs) ∷ v) = each_there hs v

-- whether a variant that says v leaves no line out
abbrev pub none_left_out : List Rows → Bool
none_left_out v = each_there handed_lines (drop own_count v)

-- whichever a part says, it is written alike
maybe_text : (hs : List Line) (ps : List Part) (v : List Rows)
    → parts_text (each_maybe hs ps) v ≡ parts_text (each_once hs ps) v
unfolding parts_text
maybe_text [] ps v = refl
maybe_text (h ∷ hs) ps [] = refl
maybe_text (h ∷ hs) ps (rs ∷ v) = ap (λ (y : List ℕ). rows_text (h ∷ []) rs ++ y) (maybe_text hs ps v)

one_maybe : (l : Line) (rs : Rows) → part_ok (one_line l) rs ≡ true → part_ok (maybe_line l) rs ≡ true
unfolding rows_ok
one_maybe l [] h = let many = (part_held (one_line l) [] h).many in absurd (omega arith)
one_maybe l (r ∷ []) h =
    held_part (maybe_line l) (r ∷ []) (omega arith) (omega arith) (part_held (one_line l) (r ∷ []) h).held
one_maybe l (r ∷ q ∷ rs) h = let few = (part_held (one_line l) (r ∷ q ∷ rs) h).few in absurd (omega arith)

once_maybe : (hs : List Line) (ps : List Part) (v : List Rows) → parts_ok (each_once hs ps) v ≡ true
    → parts_ok (each_maybe hs ps) v ≡ true
unfolding parts_ok
once_maybe [] ps v h = h
once_maybe (l ∷ hs) ps [] h = absurd (true≢false (sym h))
once_maybe (l ∷ hs) ps (rs ∷ v) h =
    let a = both_hold (part_ok (one_line l) rs) (parts_ok (each_once hs ps) v) h in
    rw (one_maybe l rs a.0, once_maybe hs ps v a.1)

maybe_once : (hs : List Line) (ps : List Part) (v : List Rows) → parts_ok (each_maybe hs ps) v ≡ true
    → each_there hs v ≡ true
    → parts_ok (each_once hs ps) v ≡ true
unfolding parts_ok each_there
maybe_once [] ps v h e = h
maybe_once (l ∷ hs) ps [] h e = absurd (true≢false (sym e))
maybe_once (l ∷ hs) ps ([] ∷ v) h e = absurd (true≢false (sym e))
maybe_once (l ∷ hs) ps ((r ∷ rs) ∷ v) h e =
    let a = both_hold (part_ok (maybe_line l) (r ∷ rs)) (parts_ok (each_maybe hs ps) v) h in
    rw (maybe_one l r rs a.0, maybe_once hs ps v a.1 e)

once_there : (hs : List Line) (ps : List Part) (v : List Rows) → parts_ok (each_once hs ps) v ≡ true
    → each_there hs v ≡ true
unfolding parts_ok each_there
once_there [] ps v h = refl
once_there (l ∷ hs) ps [] h = absurd (true≢false (sym h))
once_there (l ∷ hs) ps ([] ∷ v) h =
    let many = (part_held (one_line l) [] (both_hold (part_ok (one_line l) []) _ h).0).many in absurd (omega arith)
once_there (l ∷ hs) ps ((r ∷ rs) ∷ v) h =
    once_there hs ps v (both_hold (part_ok (one_line l) (r ∷ rs)) (parts_ok (each_once hs ps) v) h).1

-- with the lines before them
module _ (ps qs : List Part) where
  after_text : (ls : List Line) (v : List Rows) → parts_text ps (drop (length ls) v) ≡ parts_text qs (drop (length ls) v)
      → parts_text (each_once ls ps) v ≡ parts_text (each_once ls qs) v
  unfolding parts_text
  after_text [] v e = e
  after_text (l ∷ ls) [] e = refl
  after_text (l ∷ ls) (rs ∷ v) e = ap (λ (y : List ℕ). rows_text (l ∷ []) rs ++ y) (after_text ls v e)

  after_ok : (ls : List Line) (v : List Rows) → parts_ok (each_once ls ps) v ≡ true
      → (parts_ok ps (drop (length ls) v) ≡ true → parts_ok qs (drop (length ls) v) ≡ true)
      → parts_ok (each_once ls qs) v ≡ true
  unfolding parts_ok
  after_ok [] v h f = f h
  after_ok (l ∷ ls) [] h f = absurd (true≢false (sym h))
  after_ok (l ∷ ls) (rs ∷ v) h f =
      let a = both_hold (part_ok (one_line l) rs) (parts_ok (each_once ls ps) v) h in
      rw (a.0, after_ok ls v a.1 f)

-- ---- a text of a sheet is a variant's that leaves none out, and the other way

abbrev onces : List Part
onces = each_once handed_lines last_parts

abbrev maybes : List Part
maybes = each_maybe handed_lines last_parts

module _ (t : List ℕ) (v : List Rows) where
  alike : form_text variant_form v ≡ form_text sheet_form v
  unfolding sheet_form variant_form
  alike = after_text maybes onces own_lines v (maybe_text handed_lines last_parts (drop own_count v))

  pub sheet_variant : read_form sheet_form t ≡ right v → read_form variant_form t ≡ right v
  unfolding sheet_form variant_form
  sheet_variant e =
      let a = T.reads_written sheet_form t v e in
      let ok : form_ok variant_form v ≡ true =
      after_ok onces maybes own_lines v a.1 (once_maybe handed_lines last_parts (drop own_count v)) in
      ap (read_form variant_form) (a.0 ∙ sym alike) ∙ T.written_reads variant_form v variant_made ok

  pub variant_sheet : read_form variant_form t ≡ right v → none_left_out v ≡ true → read_form sheet_form t ≡ right v
  unfolding sheet_form variant_form
  variant_sheet e there =
      let a = T.reads_written variant_form t v e in
      let ok : form_ok sheet_form v ≡ true =
      after_ok maybes onces own_lines v a.1 (λ h. maybe_once handed_lines last_parts (drop own_count v) h there) in
      ap (read_form sheet_form) (a.0 ∙ alike) ∙ T.written_reads sheet_form v sheet_made ok

  pub sheet_there : read_form sheet_form t ≡ right v → none_left_out v ≡ true
  unfolding sheet_form
  sheet_there e =
      once_there handed_lines last_parts (drop own_count v)
      (ok_after own_lines onces v (T.reads_written sheet_form t v e).1)
