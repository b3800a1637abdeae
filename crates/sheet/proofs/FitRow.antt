-- What a fitting line and a FIT row have: the weight of one piece and how many there are, within their limits.
use mathlib.Core.Path.{◌≡◌, refl}
use mathlib.Core.Bool.{true, false, ◌&&◌}
use mathlib.Core.Logic.{◌⊎◌, inl, inr}
use mathlib.Core.List.{List, [], ◌∷◌}
use Prim.Native.Nat.{ℕ, zero, suc, ◌≤◌, max}
use native.Mathlib.Omega.{arith}
use borrow.Author.Tests.{ne_eqb}
use lib.Dec.{eqb}
use lib.ListN.{get_or, drop}
use Rattle.text.specs.declared.Limit.{Limit}
use Rattle.text.specs.declared.Rule.{Rule}
use Rattle.text.specs.declared.Rule.TheVariants.{Plain, OrNone, Capped, Product}
use Rattle.text.specs.Limit.{ranging, ranging_count, holds, all_hold}
use Rattle.ground.proofs.Booleans.{both_hold, false_true}
use Rattle.text.proofs.Bounds.{Between, ranging_between, between_ranging, Counted, count_counted, counted_count}
use Rattle.form.specs.Parts.{Row, letter_of}
use Rattle.form.specs.Writing.{row_ok}
use Rattle.form.proofs.Held.{row_held, only_held}
use Rattle.form.proofs.Single.{kind_self}
use Rattle.sheet.specs.Lines.{fittings, fitting_high, fitting_count, fit_line}
use Rattle.sheet.specs.Sheet.{fit_ok}
use Rattle.sheet.specs.SheetText.{fit_part, fit_number, fit_weight, fit_count, fit_row}

-- ---- weight and count

pub record Pieces (w c : ℕ) : Type 0 where
  pub some : 1 ≤ w
  pub counted : Counted 1 fitting_count fitting_high w c

-- what is not empty
pub fit_pieces : (w c : ℕ) → eqb w 0 ≡ false → fit_ok w c ≡ true → Pieces w c
unfolding all_hold
fit_pieces w c e h =
    let a = rw e at h in
    let p = both_hold (holds (ranging 1 fitting_high) 0 w) (holds count w c && true) a in
    let q = both_hold (holds count w c) true p.1 in
    let z = count_counted 1 fitting_count (top_of count.rule) w c q.0 in
    record {
      some = (ranging_between 1 fitting_high 0 w p.0).least;
      counted = record { least = z.least; most = z.most; product = omega (arith, z.product) };
    }
  where
    -- the limit that a FIT line has for a count, and the most that pieces weigh by it
    count : Limit
    count = get_or fit_line.limits 2 (ranging 0 0)

    top_of : Rule → ℕ
    top_of Plain = 0
    top_of OrNone = 0
    top_of Capped = 0
    top_of (Product top) = top

-- one piece, at least, is no heavier than all
pub piece_most : (w c : ℕ) → Pieces w c → w ≤ fitting_high
piece_most w zero p = absurd (omega (arith, p.counted.least))
piece_most w (suc c) p = omega (arith, p.counted.product)

pub pieces_held : (w c : ℕ) → Pieces w c → all_hold (drop 1 fit_line.limits) 0 (w ∷ c ∷ []) ≡ true
unfolding all_hold
pieces_held w c p =
    rw (
      between_ranging 1 fitting_high 0 w p.some (piece_most w c p),
      counted_count 1 fitting_count fitting_high w c p.counted,
    )

pub pieces_fit : (w c : ℕ) → Pieces w c → fit_ok w c ≡ true
pieces_fit w c p =
    let s = p.some in
    rw (ne_eqb w 0 (λ e. omega arith)) (pieces_held w c p)

-- an empty line has no count either
pub empty_count : (c : ℕ) → fit_ok 0 c ≡ true → c ≡ 0
unfolding all_hold
empty_count zero h = refl
empty_count (suc c) h = false_true (rw (ne_eqb (suc c) 0 (λ e. omega arith)) at h)

-- ---- a FIT row

-- its line number is from `from` on; it has a count, or leaves it out and has one piece
pub record Fitted (from : ℕ) (r : Row) : Type 0 where
  pub letter : r.letter ≡ letter_of fit_line
  pub n_low : from ≤ fit_number r
  pub n_high : fit_number r ≤ fittings
  pub pieces : Pieces (fit_weight r) (fit_count r)
  pub said : (r.numbers ≡ fit_number r ∷ fit_weight r ∷ fit_count r ∷ [])
      ⊎ ((r.numbers ≡ fit_number r ∷ fit_weight r ∷ []) × (fit_count r ≡ 1))

-- the limits of a row from `from` on
abbrev fit_limits : ℕ → List Limit
fit_limits from = ranging from fittings ∷ drop 1 fit_line.limits

-- one piece
one_piece : (w : ℕ) → Between 1 fitting_high w → Pieces w 1
one_piece w b =
    record {
      some = b.least;
      counted = record { least = omega arith; most = omega arith; product = omega (arith, b.most) };
    }

fitted_numbers : (from letter : ℕ) (ns : List ℕ) → letter ≡ letter_of fit_line → all_hold (fit_limits from) 0 ns ≡ true
    → Fitted from (record { letter = letter; numbers = ns })
unfolding all_hold
fitted_numbers from letter [] e h = false_true h
fitted_numbers from letter (n ∷ []) e h = false_true (both_hold (holds (ranging from fittings) 0 n) false h).1
fitted_numbers from letter (n ∷ w ∷ []) e h =
    let p = both_hold (holds (ranging from fittings) 0 n) (holds (ranging 1 fitting_high) n w && true) h in
    let q = both_hold (holds (ranging 1 fitting_high) n w) true p.1 in
    let b = ranging_between from fittings 0 n p.0 in
    record {
      letter = e;
      n_low = b.least;
      n_high = b.most;
      pieces = one_piece w (ranging_between 1 fitting_high n w q.0);
      said = inr (refl, refl);
    }
fitted_numbers from letter (n ∷ w ∷ c ∷ []) e h =
    let k : Limit = ranging_count 1 fitting_count fitting_high in
    let p =
    both_hold (holds (ranging from fittings) 0 n) (holds (ranging 1 fitting_high) n w && (holds k w c && true)) h in
    let q = both_hold (holds (ranging 1 fitting_high) n w) (holds k w c && true) p.1 in
    let b = ranging_between from fittings 0 n p.0 in
    record {
      letter = e;
      n_low = b.least;
      n_high = b.most;
      pieces = record {
        some = (ranging_between 1 fitting_high n w q.0).least;
        counted =
            count_counted 1 fitting_count fitting_high w c (both_hold (holds k w c) true q.1).0;
      };
      said = inl refl;
    }
fitted_numbers from letter (n ∷ w ∷ c ∷ d ∷ ns) e h =
    let k : Limit = ranging_count 1 fitting_count fitting_high in
    let p =
    both_hold (holds (ranging from fittings) 0 n) (holds (ranging 1 fitting_high) n w && (holds k w c && false)) h in
    let q = both_hold (holds (ranging 1 fitting_high) n w) (holds k w c && false) p.1 in
    false_true (both_hold (holds k w c) false q.1).1

-- 02 (vi): a row as it is written has all three numbers
row_three : (n w c : ℕ) → (fit_row n w c).numbers ≡ n ∷ w ∷ c ∷ []
row_three n w c = refl

pub fitted : (next from : ℕ) (r : Row) → max 1 next ≡ from → row_ok fit_part next r ≡ true → Fitted from r
fitted next from r m h =
    let o = only_held fit_part fit_line next r refl h in
    fitted_numbers from r.letter r.numbers o.0 (rw m at o.1)

pub row_fits : (next n w c : ℕ) → next ≤ n → 1 ≤ n → n ≤ fittings → Pieces w c
    → row_ok fit_part next (fit_row n w c) ≡ true
unfolding all_hold
row_fits next n w c a b d p =
    rw (
      row_held fit_part next (fit_row n w c) fit_line (kind_self fit_line),
      between_ranging (max 1 next) fittings 0 n (omega arith) d,
    ) (pieces_held w c p)
