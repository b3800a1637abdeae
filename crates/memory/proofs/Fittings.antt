-- A fitting line that is set to a weight and a count within their limits: the words of the sheet stay within theirs.
-- And so does the boat's weight, which moves by the difference. Of all words of the memory three are set.
use mathlib.Core.Path.{◌≡◌, refl, sym, ◌∙◌}
use mathlib.Core.Bool.{true}
use mathlib.Core.List.{List, [], ◌∷◌}
use Prim.Native.Nat.{ℕ, zero, suc, ◌+◌, ◌*◌, ◌≤◌, ◌<◌}
use native.Mathlib.Omega.{arith}
use lib.ListN.{get_or, set, take, drop}
use lib.Seq.{sets, length-sets, get_or-set_same, get_or-set_other}
use Rattle.text.specs.Limit.{all_hold}
use Rattle.ground.proofs.Booleans.{both_hold, both_true, false_true}
use Rattle.ground.proofs.Stores.{take_sets, drop_sets}
use Rattle.sheet.specs.Lines.{lines, fittings}
use Rattle.sheet.specs.Sheet.{limits_on, fit_ok, fits_ok, words_ok}
use Rattle.sheet.specs.Places.{fitting_word, fittings_at, sheet_words}
use Rattle.sheet.proofs.Words.{words_length, words_run}
use Rattle.capacity.specs.Weights.{line_weight, boat_m}
use Rattle.capacity.proofs.LineSet.{boat_set}
use Rattle.capacity.proofs.Scale.{Weighed}
use Rattle.memory.specs.Layout.{desks, Sized, draft_weight_at, draft_sheet_at, fitting_at, draft_weight, draft_sheet}
use Rattle.memory.specs.Updates.{moved, fitted}
use Rattle.memory.proofs.Parts.{word_outside, word_inside, part_word}

module _ (w c : ℕ) (f : fit_ok w c ≡ true) where
  -- line k of n, counted from 0
  fits_set : (n k : ℕ) (s : List ℕ) → k < n → fits_ok n s ≡ true → fits_ok n (sets s (2 * k) (w ∷ c ∷ [])) ≡ true
  unfolding fits_ok
  fits_set zero k s l h = absurd (omega arith)
  fits_set (suc n) k [] l h = false_true h
  fits_set (suc n) k (x ∷ []) l h = false_true h
  fits_set (suc n) zero (x ∷ y ∷ s) l h = both_true f (both_hold (fit_ok x y) (fits_ok n s) h).1
  fits_set (suc n) (suc k) (x ∷ y ∷ s) l h =
      let p = both_hold (fit_ok x y) (fits_ok n s) h in
      let e : 2 * suc k ≡ suc (suc (2 * k)) = omega arith in
      rw e (both_true p.0 (fits_set n k s (omega arith) p.1))

  pub fitted_words : (s : List ℕ) (line : ℕ) → words_ok s ≡ true → 1 ≤ line → line ≤ fittings
      → words_ok (sets s (fitting_word line) (w ∷ c ∷ [])) ≡ true
  fitted_words s zero a l h = absurd (omega arith)
  fitted_words s (suc k) a l h =
      let n = words_length s a in
      let xs : List ℕ = w ∷ c ∷ [] in
      let at : ℕ = fittings_at + 2 * k in
      let e : fitting_word (suc k) ≡ at = omega arith in
      let p =
      both_hold (all_hold (limits_on (drop 1 lines)) 0 (take fittings_at s)) (fits_ok fittings (drop fittings_at s))
      (sym (words_run s n) ∙ a) in
      rw (
        e,
        words_run (sets s at xs) (length-sets s at xs ∙ n),
        take_sets s fittings_at at xs (omega arith),
        drop_sets s fittings_at (2 * k) xs,
        p.0,
      ) (fits_set fittings k (drop fittings_at s) (omega arith) p.1)

-- ---- the boat's weight: that of the sheet with the line set, where it was that of the sheet

pub weight_follows : (m : List ℕ) (d line w c : ℕ)
    → Weighed (draft_weight m d) (draft_sheet m d)
    → 1 ≤ line
    → line ≤ fittings
    → moved m d line w c ≡ boat_m (sets (draft_sheet m d) (fitting_word line) (w ∷ c ∷ []))
weight_follows m d line w c h a b =
    let s : List ℕ = draft_sheet m d in
    let set_line = boat_set w c s line (words_length s h.within) a b in
    omega (arith, h.weight_is, set_line)

-- ---- the words

-- what a line of the draft weighs, as the code works it
pub line_weighs : (m : List ℕ) (d line : ℕ)
    → 1 ≤ line
    → line ≤ fittings
    → get_or m (fitting_at d line) 0 * get_or m (fitting_at d line + 1) 0 ≡ line_weight (draft_sheet m d) line
line_weighs m d line a b =
    let e : draft_sheet_at d + (fitting_word line + 1) ≡ fitting_at d line + 1 = omega arith in
    rw (
      part_word m (draft_sheet_at d) sheet_words (fitting_word line) (omega arith),
      part_word m (draft_sheet_at d) sheet_words (fitting_word line + 1) (omega arith),
      e,
    ) refl

pub record FittedWords (m : List ℕ) (d line w c : ℕ) : Type 0 where
  pub weight : get_or (fitted m d line w c) (fitting_at d line) 0 ≡ w
  pub count : get_or (fitted m d line w c) (1 + fitting_at d line) 0 ≡ c
  pub boat : draft_weight (fitted m d line w c) d ≡ moved m d line w c
  pub others : (k : ℕ)
      → (k ≡ draft_weight_at d → ⊥)
      → (k ≡ fitting_at d line → ⊥)
      → (k ≡ 1 + fitting_at d line → ⊥)
      → get_or (fitted m d line w c) k 0 ≡ get_or m k 0

pub fitted_three : (m : List ℕ) (d line w c : ℕ)
    → Sized m
    → d < desks
    → 1 ≤ line
    → line ≤ fittings
    → FittedWords m d line w c
unfolding fitted
fitted_three m d line w c h l a b =
    let at : ℕ = fitting_at d line in
    let xs : List ℕ = w ∷ c ∷ [] in
    let o : List ℕ = sets m at xs in
    let v : ℕ = moved m d line w c in
    let one : (k : ℕ) → (k ≡ draft_weight_at d → ⊥) → get_or (set o (draft_weight_at d) v) k 0 ≡ get_or o k 0 =
    λ k n. get_or-set_other o (draft_weight_at d) k v 0 n in
    record {
      weight = one at (λ e. omega arith) ∙ word_inside m at xs 0 (omega arith) (omega arith) (omega arith);
      count = one (1 + at) (λ e. omega arith) ∙ word_inside m at xs 1 (omega arith) (omega arith) (omega arith);
      boat = get_or-set_same o (draft_weight_at d) v 0 (omega (arith, length-sets m at xs));
      others = λ k n p q. one k n ∙ word_outside m at xs k (λ u v. p (omega (arith, q)));
    }
