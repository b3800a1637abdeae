-- Laws of limits: the table limit by limit, one number, and many numbers.
use mathlib.Core.Path.{◌≡◌, refl, sym, ap, ◌∙◌}
use mathlib.Core.Bool.{Bool, true, false, not, ◌&&◌, and-true}
use mathlib.Core.List.{List, [], ◌∷◌}
use Prim.Native.Nat.{ℕ, zero, suc, ◌+◌, ◌≤◌, ◌<◌}
use native.Mathlib.Numerals.{add-one}
use native.Mathlib.Omega.{arith}
use borrow.Author.Tests.{leb-true, ltb-true, eqb-true, le-leb, lt-ltb, ne_eqb}
use lib.Dec.{eqb, leb, ltb, leb-zero}
use lib.ListN.{length, drop, get_or, drop_of_length-le}
use lib.Seq.{drop-cons}
use Rattle.ground.proofs.Booleans.{both_hold, false_true, not_false, by_test}
use Rattle.text.specs.Number.{eleven_digits}
use Rattle.text.specs.declared.Limit.{Limit}
use Rattle.text.specs.declared.Rule.{Rule}
use Rattle.text.specs.declared.Rule.TheVariants.{Plain, OrNone, Capped, Product}
use Rattle.text.specs.Limit.{or_none, counts, limit, ranging, is_none}
use Rattle.text.specs.Limit.{by_rule, within, holds, all_hold}
use Rattle.text.specs.Limit.{spare, from_zero}

-- ---- the table

-- the limit at place k
abbrev pub limit_at : List Limit → ℕ → Limit
limit_at t k = get_or t k (ranging 0 0)

-- and those after it
pub limits_more : (t : List Limit) (k : ℕ)
    → k < length t
    → drop k t ≡ limit_at t k ∷ drop (k + 1) t
limits_more t k h = rw (add-one k, drop-cons t k (ranging 0 0))

pub limits_end : (t : List Limit) (k : ℕ) → length t ≤ k → drop k t ≡ []
limits_end t k h = rw (drop_of_length-le t {i = k} h)

-- ---- one number

pub within_high : (l : Limit) (last n : ℕ) → within l last n ≡ true → n ≤ l.high
within_high l last n e = leb-true n l.high (both_hold (leb n l.high) _ (both_hold (leb l.low n) _ e).1).0

some : (r : Rule) (last n : ℕ) → by_rule r last n ≡ true → (or_none r && eqb n 0) ≡ false
some Plain last n e = refl
some OrNone last n e = let h = ltb-true 0 n e in ne_eqb n 0 (omega arith)
some Capped last n e = refl
some (Product top) last n e = refl

-- a number within its limit is not none
pub within_some : (l : Limit) (last n : ℕ) → within l last n ≡ true → is_none l n ≡ false
within_some l last n e =
    some l.rule last n
    (both_hold (leb n l.high) _ (both_hold (leb l.low n) _ e).1).1

-- what may stand is none, or is within
pub holds_within : (l : Limit) (last n : ℕ) → holds l last n ≡ true → is_none l n ≡ false → within l last n ≡ true
holds_within l last n e d = rw d at e

pub within_holds : (l : Limit) (last n : ℕ) → within l last n ≡ true → holds l last n ≡ true
within_holds l last n e = rw (within_some l last n e, e)

pub none_zero : (l : Limit) (n : ℕ) → is_none l n ≡ true → n ≡ 0
none_zero l n e = eqb-true n 0 (both_hold (or_none l.rule) (eqb n 0) e).1

-- the limits take numbers of at most ten digits
unfoldable pub narrow : List Limit → Bool
narrow [] = true
narrow (l ∷ ls) = ltb l.high eleven_digits && narrow ls

-- and a line of them has a number, if it has limits
unfoldable pub readable : List Limit → Bool
readable ls = not (spare ls) && narrow ls

module _ (ls : List Limit) (h : readable ls ≡ true) where
  pub readable_narrow : narrow ls ≡ true
  unfolding readable
  readable_narrow = (both_hold (not (spare ls)) (narrow ls) h).1

  pub readable_some : spare ls ≡ false
  unfolding readable
  readable_some = not_false (spare ls) (both_hold (not (spare ls)) (narrow ls) h).0

pub holds_small : (l : Limit) (last n : ℕ)
    → ltb l.high eleven_digits ≡ true
    → holds l last n ≡ true
    → n < eleven_digits
holds_small l last n w e =
    by_test (is_none l n) (λ d. omega (arith, none_zero l n d))
    (λ d. omega (arith, within_high l last n (holds_within l last n e d), ltb-true l.high eleven_digits w))

plain_holds : (high last n : ℕ) → holds (limit 0 high Plain) last n ≡ leb n high
plain_holds high last n = rw (leb-zero n) (and-true (leb n high))

or_none_holds : (low high last n : ℕ) → low ≤ 1 → holds (limit low high OrNone) last n ≡ leb n high
or_none_holds low high last zero h = sym (leb-zero high)
or_none_holds low high last (suc n) h =
    rw (
      ne_eqb (suc n) 0 (λ (z : suc n ≡ 0). omega arith),
      lt-ltb 0 (suc n) (omega arith),
      le-leb low (suc n) (omega arith),
    ) (and-true (leb (suc n) high))

-- where low..high goes down to 0, high alone tells
pub low_holds : (l : Limit) (last n : ℕ) → from_zero l ≡ true → holds l last n ≡ leb n l.high
unfolding from_zero
low_holds l last n f =
    elim l.rule as (λ (r : Rule). elim r [ Plain ↦ eqb l.low 0 | OrNone ↦ leb l.low 1 | Capped ↦ false | Product top ↦ false ] ≡ true → holds (limit l.low l.high r) last n ≡ leb n l.high) [
      | Plain ↦ (λ e. rw (eqb-true l.low 0 e) (plain_holds l.high last n))
      | OrNone ↦ (λ e. or_none_holds l.low l.high last n (leb-true l.low 1 e))
      | Capped ↦ false_true
      | Product top ↦ false_true
    ] f

-- ---- many numbers

-- no number may be left out
unfoldable pub full : List Limit → Bool
full [] = true
full (l ∷ ls) = not (counts l.rule) && full ls

-- of so many numbers as there are limits
pub hold_length : (ls : List Limit) (last : ℕ) (ns : List ℕ) → full ls ≡ true → all_hold ls last ns ≡ true
    → length ns ≡ length ls
unfolding all_hold full
hold_length [] last [] f h = refl
hold_length [] last (n ∷ ns) f h = false_true h
hold_length (l ∷ ls) last [] f h =
    let e = not_false (counts l.rule) (both_hold (not (counts l.rule)) (full ls) f).0 in
    false_true (sym e ∙ h)
hold_length (l ∷ ls) last (n ∷ ns) f h =
    let fs = both_hold (not (counts l.rule)) (full ls) f in
    ap suc (hold_length ls n ns fs.1 (both_hold (holds l last n) (all_hold ls n ns) h).1)
