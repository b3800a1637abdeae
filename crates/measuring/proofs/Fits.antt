-- The fitting lines, judged one by one.
use mathlib.Core.Path.{◌≡◌, refl, sym, ◌∙◌}
use mathlib.Core.Logic.{◌≢◌}
use mathlib.Core.Bool.{true, false, ◌&&◌}
use mathlib.Core.List.{List, []}
use Prim.Native.Nat.{ℕ, zero, suc, ◌+◌, ◌-◌, ◌*◌, ◌/◌, ◌≤◌, ◌<◌}
use native.Mathlib.Omega.{arith}
use borrow.Author.Tests.{eqb-true, eqb-false, ne_eqb, le-leb, lt-leb}
use lib.Dec.{eqb, leb}
use native.Mathlib.Nat.{add-zero}
use lib.Seq.{get_or-take, get_or-drop}
use Rattle.std.specs.Simd.{first_chunks}
use lib.ListN.{length, drop, get_or, drop_of_length-le}
use Rattle.text.specs.Limit.{all_hold}
use Rattle.ground.proofs.Booleans.{by_test, by_less}
use Rattle.ground.proofs.Stores.{drop_more}
use Rattle.sheet.specs.Lines.{fittings, fitting_high, fitting_count}
use Rattle.sheet.specs.Sheet.{fit_ok, fits_ok}
use Rattle.capacity.specs.Weights.{added_up}
use Rattle.capacity.proofs.Weights.{fit_most_lem, sum_more}
use Rattle.sheet.proofs.FitRow.{Pieces, fit_pieces, pieces_fit}

-- ---- one line

fit_fails : (w c : ℕ) → (w ≡ 0 → ⊥) → (Pieces w c → ⊥) → false ≡ fit_ok w c
fit_fails w c some n = by_test (fit_ok w c) (λ e. absurd (n (fit_pieces w c (ne_eqb w 0 some) e))) sym

pub fit_uncounted : (w c : ℕ) → c ≡ 0 → eqb w 0 ≡ fit_ok w c
fit_uncounted w c z =
    by_test (eqb w 0) (λ e. rw (e, z) refl)
    (λ e. e ∙ fit_fails w c (eqb-false w 0 e) (λ p. omega (arith, p.counted.least)))

module _ (w c : ℕ) (counted : c ≢ 0) where
  pub fit_unweighed : w ≡ 0 → false ≡ fit_ok w c
  unfolding all_hold
  fit_unweighed z = rw (z, ne_eqb c 0 counted) refl

  pub fit_many : fitting_count < c → false ≡ fit_ok w c
  fit_many h =
      by_test (eqb w 0) (λ e. fit_unweighed (eqb-true w 0 e))
      (λ e. fit_fails w c (eqb-false w 0 e) (λ p. omega (arith, p.counted.most)))

  pub fit_tells : w ≢ 0 → c ≤ fitting_count → leb (w * c) fitting_high ≡ fit_ok w c
  fit_tells some few =
      by_less fitting_high (w * c)
      (λ h. lt-leb (w * c) fitting_high h ∙ fit_fails w c some (λ p. omega (arith, p.counted.product)))
      (λ h.
      let p : Pieces w c =
      record { some = omega arith; counted = record { least = omega arith; most = few; product = h } } in
      le-leb (w * c) fitting_high h ∙ sym (pieces_fit w c p))

pub ruleset line_laws = (fit_uncounted, fit_unweighed, fit_many, fit_tells)

-- ---- all of them

pub fits_more : (s : List ℕ) (line : ℕ) → length s ≡ 2 * fittings → line < fittings
    → fits_ok (fittings - line) (drop (2 * line) s)
    ≡ (fit_ok (get_or s (2 * line) 0) (get_or s (2 * line + 1) 0)
    && fits_ok (fittings - (line + 1)) (drop (2 * (line + 1)) s))
unfolding fits_ok
fits_more s line n h =
    let k : fittings - line ≡ suc (fittings - (line + 1)) = omega arith in
    let next : 2 * line + 1 + 1 ≡ 2 * (line + 1) = omega arith in
    rw (k, drop_more s (2 * line) (omega arith), drop_more s (2 * line + 1) (omega arith), next)

pub fits_end : (s : List ℕ) (line : ℕ) → length s ≡ 2 * fittings → fittings ≤ line
    → fits_ok (fittings - line) (drop (2 * line) s) ≡ true
unfolding fits_ok
fits_end s line n h =
    let k : fittings - line ≡ 0 = omega arith in
    rw (k, drop_of_length-le s {i = 2 * line} (omega arith))

-- ---- the lines as the code goes over them, pairs of weight and count

abbrev pub weight_at : List (List ℕ) → ℕ → ℕ
weight_at lines k = get_or (get_or lines k []) 0 0

abbrev pub count_at : List (List ℕ) → ℕ → ℕ
count_at lines k = get_or (get_or lines k []) 1 0

pub line_few : (lines : List (List ℕ)) (k : ℕ)
    → fit_ok (weight_at lines k) (count_at lines k) ≡ true
    → weight_at lines k * count_at lines k ≤ fitting_high
line_few lines k = fit_most_lem (weight_at lines k) (count_at lines k)

pair_word : (n k j : ℕ) (s : List ℕ) → k < n → j < 2
    → get_or (get_or (first_chunks 2 n s) k []) j 0 ≡ get_or s (2 * k + j) 0
pair_word zero k j s h l = absurd (omega arith)
pair_word (suc n) zero j s h l = let e : 2 * 0 + j ≡ j = omega arith in rw e (get_or-take 2 s j 0 l)
pair_word (suc n) (suc k) j s h l =
    let e : 2 * suc k + j ≡ 2 + (2 * k + j) = omega arith in
    rw e (pair_word n k j (drop 2 s) (omega arith) l ∙ get_or-drop 2 s (2 * k + j) 0)

module _ (s : List ℕ) (n : length s ≡ 2 * fittings)
    {lines : List (List ℕ)} (e : lines ≡ first_chunks 2 (length s / 2) s)
    (k : ℕ) (h : k < fittings) where
  weight_there : weight_at lines k ≡ get_or s (2 * k) 0
  weight_there = rw (e, pair_word (length s / 2) k 0 s (omega arith) (omega arith), add-zero)

  count_there : count_at lines k ≡ get_or s (2 * k + 1) 0
  count_there = rw e (pair_word (length s / 2) k 1 s (omega arith) (omega arith))

  pub line_told : fits_ok (fittings - k) (drop (2 * k) s)
      ≡ (fit_ok (weight_at lines k) (count_at lines k) && fits_ok (fittings - (k + 1)) (drop (2 * (k + 1)) s))
  line_told = rw (weight_there, count_there) (fits_more s k n h)

  pub line_weighs : added_up (drop (2 * k) s) ≡ weight_at lines k * count_at lines k + added_up (drop (2 * (k + 1)) s)
  line_weighs = rw (weight_there, count_there) (sum_more s k (omega arith))
