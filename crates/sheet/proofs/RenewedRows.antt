-- 02 (vi): the text of FIT rows, renewed, is the text of the same rows with their counts.
use mathlib.Core.Path.{◌≡◌, refl, sym, ap, ◌∙◌}
use mathlib.Core.Logic.{◌⊎◌, inl, inr}
use mathlib.Core.Bool.{true}
use mathlib.Core.List.{List, [], ◌∷◌, ◌++◌, append_assoc}
use Prim.Native.Nat.{ℕ, ◌+◌, max}
use native.Mathlib.Omega.{arith}
use lib.ListN.{length}
use Rattle.text.specs.Line.{line_text}
use Rattle.ground.proofs.Booleans.{both_hold}
use Rattle.form.specs.Parts.{Row, Rows, letter_of, raised, next_after}
use Rattle.form.specs.Writing.{row_ok, rows_ok, row_text, rows_text}
use Rattle.form.proofs.Letters.{raised_text}
use Rattle.form.proofs.Held.{only_held}
use Rattle.form.proofs.Single.{kind_self}
use Rattle.sheet.specs.Lines.{fit_line}
use Rattle.sheet.specs.SheetText.{fit_part, fit_number, fit_weight, fit_count, fit_row}
use Rattle.sheet.specs.Renewed.{tabs, renewed}
use Rattle.sheet.proofs.FitRow.{Fitted, fitted}
use Rattle.sheet.proofs.Fits.{counted_rows}
use Rattle.sheet.proofs.Lined.{Lined, line_lined}
use Rattle.sheet.proofs.Renewed.{renewed_line_lem, other_renewed, not_two, tag_free, two_old}
use Rattle.sheet.proofs.Renewed.{one_written}

row_text_lem : (r : Row) → r.letter ≡ letter_of fit_line → row_text (fit_line ∷ []) r ≡ line_text fit_line r.numbers
row_text_lem r e = rw (e, kind_self fit_line, row_text)

-- a row that may stand is a line, with a tab for each number
row_lined : (next : ℕ) (r : Row) (n : ℕ) (ns : List ℕ) → r.numbers ≡ n ∷ ns → row_ok fit_part next r ≡ true
    → Lined (line_text fit_line (n ∷ ns)) (1 + length ns)
unfolding tabs
row_lined next r n ns e h =
    let o = only_held fit_part fit_line next r refl h in
    let l = line_lined (raised true next fit_line) n ns tag_free (rw e at o.1) in
    rw (raised_text true next fit_line (n ∷ ns)) at l

row_renewed : (next : ℕ) (r : Row) (u : List ℕ) → row_ok fit_part next r ≡ true → Fitted (max 1 next) r
    → renewed (row_text (fit_line ∷ []) r ++ u)
    ≡ row_text (fit_line ∷ []) (fit_row (fit_number r) (fit_weight r) (fit_count r)) ++ renewed u
row_renewed next r u h f = rw (row_text_lem r f.letter, kind_self fit_line, row_text) (go f.said)
  where
    n : ℕ
    n = fit_number r

    w : ℕ
    w = fit_weight r

    go : (r.numbers ≡ n ∷ w ∷ fit_count r ∷ []) ⊎ ((r.numbers ≡ n ∷ w ∷ []) × (fit_count r ≡ 1))
        → renewed (line_text fit_line r.numbers ++ u) ≡ line_text fit_line (n ∷ w ∷ fit_count r ∷ []) ++ renewed u
    go (inl e) =
        let l = row_lined next r n (w ∷ fit_count r ∷ []) e h in
        let x : List ℕ = line_text fit_line (n ∷ w ∷ fit_count r ∷ []) in
        ap (λ (ns : List ℕ). renewed (line_text fit_line ns ++ u)) e
        ∙ other_renewed x u 3 l (not_two x u 3 l (λ z. omega arith))
    go (inr (e, c)) =
        let l = row_lined next r n (w ∷ []) e h in
        let x : List ℕ = line_text fit_line (n ∷ w ∷ []) in
        let y : renewed (x ++ u) ≡ line_text fit_line (n ∷ w ∷ 1 ∷ []) ++ renewed u =
        renewed_line_lem x u 2 l ∙ rw (two_old n w l, one_written n w) in
        ap (λ (ns : List ℕ). renewed (line_text fit_line ns ++ u)) e
        ∙ y
        ∙ ap (λ (k : ℕ). line_text fit_line (n ∷ w ∷ k ∷ []) ++ renewed u) (sym c)

pub rows_renewed : (rs : Rows) (next : ℕ) (u : List ℕ) → rows_ok fit_part next rs ≡ true
    → renewed (rows_text (fit_line ∷ []) rs ++ u) ≡ rows_text (fit_line ∷ []) (counted_rows rs) ++ renewed u
unfolding rows_ok rows_text counted_rows
rows_renewed [] next u h = refl
rows_renewed (r ∷ rs) next u h =
    let hs = both_hold (row_ok fit_part next r) (rows_ok fit_part (next_after r) rs) h in
    let x : List ℕ = row_text (fit_line ∷ []) r in
    let y : List ℕ = rows_text (fit_line ∷ []) rs in
    let z : List ℕ = row_text (fit_line ∷ []) (fit_row (fit_number r) (fit_weight r) (fit_count r)) in
    ap renewed (append_assoc x y u)
    ∙ row_renewed next r (y ++ u) hs.0 (fitted next (max 1 next) r refl hs.0)
    ∙ ap (λ (t : List ℕ). z ++ t) (rows_renewed rs (next_after r) u hs.1)
    ∙ sym (append_assoc z (rows_text (fit_line ∷ []) (counted_rows rs)) (renewed u))
