-- Plate U: which figures apply to a hull, and that what is marked is the largest whole number of pounds within them,
-- below zero too.
use mathlib.Core.Path.{◌≡◌, refl}
use mathlib.Core.Bool.{Bool, true, false, cond}
use mathlib.Core.List.{List}
use mathlib.Core.Logic.{◌⊎◌, inl, inr}
use Prim.Native.Nat.{ℕ, ◌+◌, ◌*◌, ◌≤◌, ◌<◌}
use native.Mathlib.Nat.{mul-add, mul-le-mul}
use native.Mathlib.Omega.{arith}
use borrow.Author.Tests.{lt-ltb, le-ltb}
use lib.Dec.{eqb, ltb, lit<}
use lib.IntN.{ℤ, pos, ◌+ℤ◌, ◌*ℤ◌}
use Rattle.capacity.specs.Whole.{greatest}
use Rattle.capacity.specs.Words.{outboard, declared}
use Rattle.capacity.specs.PlateU.{Figure, outboard_fifth, outboard_tenths, inboard_fifth, inboard_seventh, Rule}
use Rattle.capacity.specs.PlateU.{only_one, greater_of, two_horses, rule_u, dividend_u, divisor_u, pounds, pounds_by}
use Rattle.capacity.specs.PlateU.{marked_u}
use Rattle.capacity.proofs.Whole.{of_pos, sum_of, times_of}
use Rattle.capacity.proofs.Order.{NotAbove, not_above, not_above_back, sums, greatest_left, greatest_right}
use Rattle.capacity.proofs.Order.{greatest_one}
use Rattle.capacity.proofs.Rounding.{Largest, floor_largest}

-- ---- which figures apply

pub u_high : (m : ℕ) (s : List ℕ) → eqb (outboard s) 1 ≡ true → two_horses < declared s
    → rule_u m s ≡ only_one (outboard_fifth m s)
unfolding rule_u
u_high m s e h = rw (e, lt-ltb two_horses (declared s) h) refl

pub u_low : (m : ℕ) (s : List ℕ) → eqb (outboard s) 1 ≡ true → declared s ≤ two_horses
    → rule_u m s ≡ only_one (outboard_tenths m)
unfolding rule_u
u_low m s e h = rw (e, le-ltb two_horses (declared s) h) refl

-- an inboard's two, whatever its power
pub u_inboard : (m : ℕ) (s : List ℕ) → eqb (outboard s) 1 ≡ false
    → rule_u m s ≡ greater_of (inboard_fifth m s) (inboard_seventh m s)
unfolding rule_u
u_inboard m s e = rw e refl

-- what holds of the rule that each hull has holds of every hull's
pub by_hull : (P : Rule → Type 0) (m : ℕ) (s : List ℕ)
    → P (only_one (outboard_fifth m s))
    → P (only_one (outboard_tenths m))
    → P (greater_of (inboard_fifth m s) (inboard_seventh m s))
    → P (rule_u m s)
unfolding rule_u
by_hull P m s a b c = go (eqb (outboard s) 1) (ltb two_horses (declared s))
  where
    go : (t u : Bool)
        → P (cond t (cond u (only_one (outboard_fifth m s)) (only_one (outboard_tenths m)))
        (greater_of (inboard_fifth m s) (inboard_seventh m s)))
    go true true = a
    go true false = b
    go false u = c

-- ---- the largest whole number within the rule

-- q pounds are within a figure; and they are more than it is
abbrev pub WithinFigure : List ℕ → Figure → ℤ → Type 0
WithinFigure s f q = NotAbove (pos (divisor_u f) *ℤ q) (dividend_u s f)

abbrev pub ExceedsFigure : List ℕ → Figure → ℤ → Type 0
ExceedsFigure s f q = NotAbove (dividend_u s f +ℤ pos 1) (pos (divisor_u f) *ℤ q)

-- q pounds fit a figure that applies; and they fit none
abbrev pub FitsOne : List ℕ → Rule → ℤ → Type 0
FitsOne s (only_one f) q = WithinFigure s f q
FitsOne s (greater_of f g) q = WithinFigure s f q ⊎ WithinFigure s g q

abbrev pub FitsNone : List ℕ → Rule → ℤ → Type 0
FitsNone s (only_one f) q = ExceedsFigure s f q
FitsNone s (greater_of f g) q = ExceedsFigure s f q × ExceedsFigure s g q

pub record LargestBy (s : List ℕ) (r : Rule) (q : ℤ) : Type 0 where
  pub fits : FitsOne s r q
  pub most : FitsNone s r (q +ℤ pos 1)

floored : (s : List ℕ) (f : Figure) → 0 < divisor_u f → Largest (dividend_u s f) (divisor_u f) (pounds s f)
floored s f p = floor_largest (dividend_u s f) (divisor_u f) p

-- what exceeds a figure still does where it is more
exceeds_more : (z q r : ℤ) (d : ℕ)
    → NotAbove z (pos d *ℤ (q +ℤ pos 1))
    → NotAbove q r
    → NotAbove z (pos d *ℤ (r +ℤ pos 1))
exceeds_more z q r d h k =
    let dz = (sums z).2 in
    let dq = (sums q).2 in
    let dr = (sums r).2 in
    let a : ℕ = (sums q).0 in
    let b : ℕ = (sums q).1 in
    let c : ℕ = (sums r).0 in
    let e : ℕ = (sums r).1 in
    let x = not_above_back dz (times_of d (sum_of dq (of_pos 1))) h in
    let m : d * (a + e) ≤ d * (c + b) = mul-le-mul {n₁ = d} {n₂ = d} (omega arith) (not_above_back dq dr k) in
    not_above dz (times_of d (sum_of dr (of_pos 1)))
    (omega (arith, mul-add d a e, mul-add d c b, mul-add d a 1, mul-add d c 1, x, m))

one_largest : (s : List ℕ) (f : Figure) → 0 < divisor_u f → LargestBy s (only_one f) (pounds s f)
one_largest s f p = record { fits = (floored s f p).fits; most = (floored s f p).most }

greater_largest : (s : List ℕ) (f g : Figure)
    → 0 < divisor_u f
    → 0 < divisor_u g
    → LargestBy s (greater_of f g) (greatest (pounds s f) (pounds s g))
greater_largest s f g p r =
    record {
      fits = one (greatest_one (pounds s f) (pounds s g));
      most = (
        exceeds_more (dividend_u s f +ℤ pos 1) (pounds s f) q (divisor_u f) (floored s f p).most
            (greatest_left (pounds s f) (pounds s g)),
        exceeds_more (dividend_u s g +ℤ pos 1) (pounds s g) q (divisor_u g) (floored s g r).most
            (greatest_right (pounds s f) (pounds s g)),
      );
    }
  where
    q : ℤ
    q = greatest (pounds s f) (pounds s g)

    one : (q ≡ pounds s f) ⊎ (q ≡ pounds s g) → WithinFigure s f q ⊎ WithinFigure s g q
    one (inl e) = inl (rw e (floored s f p).fits)
    one (inr e) = inr (rw e (floored s g r).fits)

pub u_largest : (m : ℕ) (s : List ℕ) → LargestBy s (rule_u m s) (marked_u m s)
unfolding marked_u
u_largest m s =
    by_hull (λ (r : Rule). LargestBy s r (pounds_by s r)) m s (one_largest s (outboard_fifth m s) (lit< tt))
    (one_largest s (outboard_tenths m) (lit< tt))
    (greater_largest s (inboard_fifth m s) (inboard_seventh m s) (lit< tt) (lit< tt))

-- an inboard is marked below neither of its figures
pub u_neither : (m : ℕ) (s : List ℕ)
    → eqb (outboard s) 1 ≡ false
    → NotAbove (pounds s (inboard_fifth m s)) (marked_u m s) × NotAbove (pounds s (inboard_seventh m s)) (marked_u m s)
unfolding marked_u
u_neither m s e =
    rw (u_inboard m s e) (
      greatest_left (pounds s (inboard_fifth m s)) (pounds s (inboard_seventh m s)),
      greatest_right (pounds s (inboard_fifth m s)) (pounds s (inboard_seventh m s)),
    )
