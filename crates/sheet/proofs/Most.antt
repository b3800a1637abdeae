-- The greatest length of a sheet's text, 658 bytes, and the sheet that reaches it. Weight and count of a fitting have
-- seven digits together at most: their product is limited, and the two limits taken apart would allow eight.
use mathlib.Core.Path.{◌≡◌, refl}
use mathlib.Core.Bool.{true}
use mathlib.Core.List.{List, [], ◌∷◌, ◌++◌, map}
use Prim.Native.Nat.{ℕ, zero, suc, ◌+◌, ◌*◌, ◌≤◌}
use native.Mathlib.Nat.{mul-le-mul}
use native.Mathlib.Omega.{arith}
use lib.Dec.{eqb}
use lib.ListN.{length, take, drop, length-append}
use Rattle.text.specs.Quoted.{tab, feed}
use Rattle.text.specs.Number.{digits_in, digits_of}
use Rattle.text.specs.declared.Limit.{Limit}
use Rattle.text.specs.Limit.{all_hold}
use Rattle.text.specs.Line.{Line, numbers_text, line_text}
use Rattle.ground.proofs.Booleans.{both_hold, false_true, by_test, by_less}
use Rattle.text.proofs.Number.{length_digits_mono}
use Rattle.text.proofs.Writing.{numbers_take}
use Rattle.text.proofs.Most.{numbers_most, numbers_most_lem, line_most, line_most_lem}
use Rattle.form.specs.Parts.{kind_of}
use Rattle.form.specs.Writing.{rows_text, parts_text}
use Rattle.sheet.specs.Lines.{lines, fittings, fitting_count, fit_line, end_line}
use Rattle.sheet.specs.Sheet.{limits_on, fit_ok, fits_ok, ok_on, sheet_ok}
use Rattle.sheet.specs.SheetText.{sheet_form, fit_rows, rows_on, sheet_text}
use Rattle.sheet.proofs.FitRow.{Pieces, fit_pieces, piece_most}
use Rattle.sheet.proofs.Writing.{text_on, text_whole, text_line}
use Rattle.sheet.proofs.Writing.{fits_text, text_fits, fits_none, fits_empty, fits_line}

-- ---- fittings

abbrev digits : ℕ → ℕ
digits n = length (digits_of n)

digits_are : (digits 9 ≡ 1) × ((digits fitting_count ≡ 2) × ((digits 50000 ≡ 5) × (digits 500000 ≡ 6)))
unfolding digits_of digits_in
digits_are = (refl, (refl, (refl, refl)))

-- weight and count
piece_digits : (w c : ℕ) → Pieces w c → digits w + digits c ≤ 7
piece_digits w c p =
    let d = digits_are in
    by_less c 10
    (λ h.
    omega (
      arith,
      length_digits_mono w 500000 (piece_most w c p),
      length_digits_mono c 9 (omega arith),
      d.0,
      d.1.1.1,
    ))
    (λ h.
    let k : w * 10 ≤ w * c = mul-le-mul {n₂ = w} {m₂ = c} (omega arith) h in
    omega (
      arith,
      length_digits_mono w 50000 (omega (arith, k, p.counted.product)),
      length_digits_mono c fitting_count p.counted.most,
      d.1.0,
      d.1.1.0,
    ))

-- the line of a fitting whose number is n: its tag, the numbers and what ends them
abbrev fit_most : ℕ → ℕ
fit_most n = length fit_line.tag + (digits n + 1 + (7 + 2))

fit_most_lem : (n w c : ℕ) → Pieces w c → length (line_text fit_line (n ∷ w ∷ c ∷ [])) ≤ fit_most n
unfolding numbers_text
fit_most_lem n w c p =
    let x : List ℕ = digits_of c ++ (feed ∷ []) in
    let y : List ℕ = digits_of w ++ (tab ∷ x) in
    omega (
      arith,
      length-append (digits_of n) (tab ∷ y),
      length-append (digits_of w) (tab ∷ x),
      length-append (digits_of c) (feed ∷ []),
      piece_digits w c p,
    )

-- the fittings on k lines from n on
unfoldable fits_most : ℕ → ℕ → ℕ
fits_most n zero = 0
fits_most n (suc k) = fit_most n + fits_most (suc n) k

fits_most_lem : (k : ℕ) (s : List ℕ) (n : ℕ) → fits_ok k s ≡ true → length (fits_text n s) ≤ fits_most n k
unfolding fits_ok fits_most
fits_most_lem zero [] n h = rw (fits_none n) (omega arith)
fits_most_lem zero (w ∷ s) n h = false_true h
fits_most_lem (suc k) [] n h = false_true h
fits_most_lem (suc k) (w ∷ []) n h = false_true h
fits_most_lem (suc k) (w ∷ c ∷ s) n h =
    let p = both_hold (fit_ok w c) (fits_ok k s) h in
    let ih = fits_most_lem k s (suc n) p.1 in
    by_test (eqb w 0) (λ e. rw (fits_empty n w c s e) (omega arith))
    (λ e.
    let m = length-append (line_text fit_line (n ∷ w ∷ c ∷ [])) (fits_text (suc n) s) in
    rw (fits_line n w c s e) (omega (arith, m, fit_most_lem n w c (fit_pieces w c e p.0))))

-- ---- a whole sheet

unfoldable text_most : List Line → ℕ
text_most [] = fits_most 1 fittings + line_most end_line
text_most (l ∷ ls) = line_most l + text_most ls

most_on : (ls : List Line) (s : List ℕ) → ok_on ls s ≡ true → length (text_on ls s) ≤ text_most ls
unfolding text_most ok_on all_hold
most_on [] s h =
    let e = line_most_lem end_line 0 [] refl in
    rw (text_fits s) (omega (arith, length-append (fits_text 1 s) (line_text end_line []), fits_most_lem fittings s 1 h))
most_on (l ∷ ls) s h =
    let n : ℕ = length l.limits in
    let hs = both_hold (all_hold l.limits 0 (take n s)) (ok_on ls (drop n s)) h in
    let m = rw (numbers_take l.limits s) at (numbers_most_lem l.limits 0 (take n s) hs.0) in
    let ih = most_on ls (drop n s) hs.1 in
    let a = length-append (line_text l s) (text_on ls (drop n s)) in
    rw (text_line l ls s) (omega (arith, a, length-append l.tag (numbers_text l.limits s)))

abbrev pub most_text : ℕ
most_text = 658

total : text_most lines ≡ most_text
unfolding text_most numbers_most fits_most digits_of digits_in
total = refl

-- no sheet within the limits has a longer text
pub text_most_lem : (s : List ℕ) → sheet_ok s ≡ true → length (sheet_text s) ≤ most_text
text_most_lem s h = rw (text_whole s) (omega (arith, total, most_on lines s h))

-- and the sheet of the highest numbers, with one piece of the highest weight on each line, has one as long
unfoldable pub highest : List ℕ
highest = map (λ (l : Limit). l.high) (limits_on lines) ++ pieces fittings
  where
    pieces : ℕ → List ℕ
    pieces zero = []
    pieces (suc k) = 500000 ∷ 1 ∷ pieces k

pub most_reached : (sheet_ok highest ≡ true) × (length (sheet_text highest) ≡ most_text)
unfolding highest ok_on fits_ok limits_on all_hold sheet_text sheet_form rows_on fit_rows
    parts_text rows_text kind_of numbers_text digits_of digits_in
most_reached = (refl, refl)
