-- The fittings, written one after another.
use mathlib.Core.Path.{◌≡◌, refl, sym, ap, ◌∙◌}
use mathlib.Core.Bool.{false}
use mathlib.Core.List.{List, [], ◌∷◌, ◌++◌, append-nil, append_assoc}
use Prim.Native.Nat.{ℕ, zero, suc, ◌+◌, ◌*◌, ◌≤◌, ◌<◌}
use native.Mathlib.Numerals.{add-one}
use native.Mathlib.Omega.{arith}
use borrow.Author.Tests.{eq-eqb, ne_eqb}
use lib.Dec.{eqb}
use lib.ListN.{length, take, drop, get_or, length-append, drop_of_length-le}
use lib.Seq.{drop-drop}
use Rattle.std.specs.Simd.{first_chunks}
use Rattle.text.specs.Limit.{ranging}
use Rattle.text.specs.Line.{Line, numbers_text, line_text}
use Rattle.ground.proofs.Booleans.{by_test}
use Rattle.ground.proofs.Stores.{drop_more}
use Rattle.sheet.specs.Lines.{fittings, fit_line}
use Rattle.sheet.proofs.Writing.{fits_none, fits_empty, fits_line}
use Rattle.writing.specs.Pieces.{fits_text}

-- ---- one fitting

-- a FIT line whose number is n or more, as the code has it
abbrev fit_from : ℕ → Line
fit_from n = record { tag = fit_line.tag; limits = ranging n fittings ∷ drop 1 fit_line.limits }

module _ (n w c : ℕ) where
  pub fit_none : w ≡ 0 → fits_text n (w ∷ c ∷ []) ≡ []
  fit_none e = fits_empty n w c [] (eq-eqb w 0 e) ∙ fits_none (suc n)

  fit_line_lem : eqb w 0 ≡ false → fits_text n (w ∷ c ∷ []) ≡ line_text fit_line (n ∷ w ∷ c ∷ [])
  fit_line_lem e = fits_line n w c [] e ∙ rw (fits_none (suc n)) (append-nil (line_text fit_line (n ∷ w ∷ c ∷ [])))

  pub fit_some : (w ≡ 0 → ⊥) → fits_text n (w ∷ c ∷ []) ≡ line_text (fit_from n) (n ∷ w ∷ c ∷ [])
  unfolding numbers_text
  fit_some e = fit_line_lem (ne_eqb w 0 e)

  -- a fitting, and then the others
  fits_first : (s : List ℕ) → fits_text n (w ∷ c ∷ s) ≡ fits_text n (w ∷ c ∷ []) ++ fits_text (suc n) s
  fits_first s =
      by_test (eqb w 0) (λ e. fits_empty n w c s e ∙ rw (fits_empty n w c [] e, fits_none (suc n)))
      (λ e. fits_line n w c s e ∙ ap (λ (x : List ℕ). x ++ fits_text (suc n) s) (sym (fit_line_lem e)))

-- ---- the loop

pair_at : (k i : ℕ) (s : List ℕ) → i < k → get_or (first_chunks 2 k s) i [] ≡ take 2 (drop (2 * i) s)
pair_at zero i s h = absurd (omega arith)
pair_at (suc k) zero s h = refl
pair_at (suc k) (suc i) s h =
    let two : 2 * suc i ≡ 2 + 2 * i = omega arith in
    pair_at k i (drop 2 s) (omega arith) ∙ rw (two, drop-drop (2 * i) 2 s)

-- after the text so, the fittings from line i on are still to be written of s, and t is all
pub record Ahead (s so : List ℕ) (i : ℕ) (t : List ℕ) : Type 0 where
  pub whole : so ++ fits_text (i + 1) (drop (2 * i) s) ≡ t

module _ {s so : List ℕ} {i : ℕ} {t : List ℕ} (p : Ahead s so i t) (n : length s ≡ 2 * fittings) where
  pub done : fittings ≤ i → so ≡ t
  done h =
      let none : fits_text (i + 1) (drop (2 * i) s) ≡ [] =
      rw (drop_of_length-le s {i = 2 * i} (omega arith)) (fits_none (i + 1)) in
      sym (append-nil so) ∙ (rw none at p.whole)

  -- the code has the fittings in pairs
  module _ {pairs : List (List ℕ)} (e : pairs ≡ first_chunks 2 fittings s) (h : i < fittings) where
    abbrev pair : List ℕ
    pair = get_or pairs i []

    abbrev here : List ℕ
    here = fits_text (i + 1) (get_or pair 0 0 ∷ get_or pair 1 0 ∷ [])

    abbrev rest : List ℕ
    rest = fits_text (i + 1 + 1) (drop (2 * (i + 1)) s)

    entered : so ++ (here ++ rest) ≡ t
    entered =
        let w : ℕ = get_or s (2 * i) 0 in
        let c : ℕ = get_or s (2 * i + 1) 0 in
        let next : 2 * i + 1 + 1 ≡ 2 * (i + 1) = omega arith in
        let d : drop (2 * i) s ≡ w ∷ c ∷ drop (2 * (i + 1)) s =
        rw (drop_more s (2 * i) (omega arith), drop_more s (2 * i + 1) (omega arith), next) in
        let q : pair ≡ w ∷ c ∷ [] = rw (e, pair_at fittings i s h, d) in
        let f : fits_text (i + 1) (drop (2 * i) s) ≡ here ++ rest =
        rw (d, fits_first (i + 1) w c (drop (2 * (i + 1)) s), q, add-one (i + 1)) in
        ap (λ (x : List ℕ). so ++ x) (sym f) ∙ p.whole

    pub room : length so + length here ≤ length t
    room = omega (arith, ap length entered, length-append so (here ++ rest), length-append here rest)

    pub step : {so' : List ℕ} → so' ≡ so ++ here → Ahead s so' (i + 1) t
    step e = record { whole = rw e (append_assoc so here rest ∙ entered) }
