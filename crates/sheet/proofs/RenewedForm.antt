-- 02 (vi): the text of a sheet's rows, renewed, is the text of the same rows, those of fittings with their counts.
use mathlib.Core.Path.{◌≡◌, refl, sym, ap, ◌∙◌}
use mathlib.Core.Bool.{Bool, true, false, true≢false, ◌&&◌}
use mathlib.Core.List.{List, [], ◌∷◌, ◌++◌}
use Prim.Native.Nat.{ℕ, ◌+◌}
use native.Mathlib.Omega.{arith}
use borrow.Author.Tests.{ltb-true, eqb-true}
use lib.Dec.{eqb, ltb}
use lib.ListN.{length}
use Rattle.text.specs.Field.{agreed}
use Rattle.text.specs.Limit.{all_hold}
use Rattle.text.specs.Line.{Line, numbers_text, line_text}
use Rattle.text.specs.Place.{feeds, cut_from}
use Rattle.ground.proofs.Booleans.{both_hold, false_true}
use Rattle.text.proofs.Limits.{full, hold_length}
use Rattle.form.specs.Parts.{Rows, one_line}
use Rattle.form.specs.Writing.{part_ok, parts_ok, form_ok, rows_text, parts_text, form_text}
use Rattle.form.proofs.Held.{part_held}
use Rattle.form.proofs.Single.{single, single_text}
use Rattle.sheet.specs.Lines.{lines, fit_line, end_line}
use Rattle.sheet.specs.SheetText.{fit_part, each_once, last_parts, sheet_form}
use Rattle.sheet.specs.Renewed.{tabs, renewed}
use Rattle.sheet.proofs.Fits.{counted_rows}
use Rattle.sheet.proofs.Full.{lines_full, lines_full_lem}
use Rattle.sheet.proofs.SheetRows.{counted_on}
use Rattle.sheet.proofs.Lined.{line_lined}
use Rattle.sheet.proofs.Renewed.{other_renewed, clash, other_tag}
use Rattle.sheet.proofs.RenewedRows.{rows_renewed}

-- ---- any other line

-- whether a line has another tag, no line feed in it, and a number
abbrev is_other : Line → Bool
is_other l = clash fit_line.tag l.tag && (eqb (feeds l.tag) 0 && ltb 0 (length l.limits))

unfoldable lines_other : List Line → Bool
lines_other [] = true
lines_other (l ∷ ls) = is_other l && lines_other ls

lines_other_lem : lines_other lines ≡ true
unfolding lines_other clash feeds
lines_other_lem = refl

line_renewed : (l : Line) (ns u : List ℕ) → is_other l ≡ true → full l.limits ≡ true
    → all_hold l.limits 0 ns ≡ true
    → renewed (line_text l ns ++ u) ≡ line_text l ns ++ renewed u
line_renewed l [] u o f h =
    let c = both_hold (clash fit_line.tag l.tag) _ o in
    let d = both_hold (eqb (feeds l.tag) 0) (ltb 0 (length l.limits)) c.1 in
    let z = ltb-true 0 (length l.limits) d.1 in
    absurd (omega (arith, hold_length l.limits 0 [] f h))
line_renewed l (n ∷ ns) u o f h =
    let c = both_hold (clash fit_line.tag l.tag) _ o in
    let d = both_hold (eqb (feeds l.tag) 0) (ltb 0 (length l.limits)) c.1 in
    let many : ℕ = tabs l.tag + length ns in
    let lined = line_lined l n ns (eqb-true (feeds l.tag) 0 d.0) h in
    other_renewed (line_text l (n ∷ ns)) u many lined
    (other_tag l.tag (numbers_text l.limits (n ∷ ns)) c.0)

-- ---- the whole text

end_text : (es : Rows) → part_ok (one_line end_line) es ≡ true → rows_text (end_line ∷ []) es ≡ line_text end_line []
unfolding all_hold
end_text es h =
    let e = single end_line es h in
    rw e.is (single_text end_line e.ns ∙ go e.ns e.held)
  where
    go : (ns : List ℕ) → all_hold [] 0 ns ≡ true → line_text end_line ns ≡ line_text end_line []
    go [] h = refl
    go (n ∷ ns) h = false_true h

end_renewed : renewed (line_text end_line [] ++ []) ≡ line_text end_line [] ++ []
unfolding renewed cut_from agreed tabs numbers_text
end_renewed = refl

on_renewed : (ls : List Line) (v : List Rows) → lines_full ls ≡ true → lines_other ls ≡ true
    → parts_ok (each_once ls last_parts) v ≡ true
    → renewed (parts_text (each_once ls last_parts) v) ≡ parts_text (each_once ls last_parts) (counted_on ls v)
unfolding parts_ok parts_text counted_on lines_full lines_other
on_renewed [] [] f o h = absurd (true≢false (sym h))
on_renewed [] (rs ∷ []) f o h = absurd (true≢false (sym (both_hold (part_ok fit_part rs) false h).1))
on_renewed [] (rs ∷ es ∷ q ∷ v) f o h =
    let hs = both_hold (part_ok fit_part rs) _ h in
    absurd (true≢false (sym (both_hold (part_ok (one_line end_line) es) false hs.1).1))
on_renewed [] (rs ∷ es ∷ []) f o h =
    let hs = both_hold (part_ok fit_part rs) (part_ok (one_line end_line) es && true) h in
    let end = end_text es (both_hold (part_ok (one_line end_line) es) true hs.1).0 in
    let u : List ℕ = rows_text (end_line ∷ []) es ++ [] in
    let same : renewed u ≡ u = rw end end_renewed in
    rows_renewed rs 0 u (part_held fit_part rs hs.0).held
    ∙ ap (λ (x : List ℕ). rows_text (fit_line ∷ []) (counted_rows rs) ++ x) same
on_renewed (l ∷ ls) [] f o h = absurd (true≢false (sym h))
on_renewed (l ∷ ls) (rs ∷ v) f o h =
    let fs = both_hold (full l.limits) (lines_full ls) f in
    let os = both_hold (is_other l) (lines_other ls) o in
    let hs = both_hold (part_ok (one_line l) rs) (parts_ok (each_once ls last_parts) v) h in
    let e = single l rs hs.0 in
    let x : rows_text (l ∷ []) rs ≡ line_text l e.ns = ap (rows_text (l ∷ [])) e.is ∙ single_text l e.ns in
    let u : List ℕ = parts_text (each_once ls last_parts) v in
    rw x
    (line_renewed l e.ns u os.0 fs.0 e.held
    ∙ ap (λ (y : List ℕ). line_text l e.ns ++ y) (on_renewed ls v fs.1 os.1 hs.1))

pub form_renewed : (v : List Rows) → form_ok sheet_form v ≡ true
    → renewed (form_text sheet_form v) ≡ form_text sheet_form (counted_on lines v)
unfolding sheet_form
form_renewed v h = on_renewed lines v lines_full_lem lines_other_lem h
