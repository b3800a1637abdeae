-- Numbers that are within their limits, as a line has them: each is at most its limit's high end, and at least its low
-- end.
use mathlib.Core.Path.{◌≡◌}
use mathlib.Core.Bool.{true, cond}
use mathlib.Core.List.{List, [], ◌∷◌, map}
use Prim.Native.Nat.{ℕ, zero, suc, ◌≤◌, ◌<◌}
use native.Mathlib.Omega.{arith}
use borrow.Author.Tests.{leb-true}
use lib.Dec.{eqb, leb}
use lib.ListN.{length, get_or, take, drop}
use lib.Seq.{get_or-take}
use Rattle.ground.proofs.Booleans.{both_hold, false_true, by_test}
use Rattle.text.specs.declared.Limit.{Limit}
use Rattle.text.specs.Limit.{or_none, is_none, holds, all_hold}
use Rattle.text.proofs.Limits.{within_high, holds_within, none_zero}
use Rattle.sheet.specs.Lines.{lines}
use Rattle.sheet.specs.Sheet.{limits_on}
use Rattle.sheet.specs.Places.{fittings_at}
use Rattle.capacity.specs.Highs.{high_at}

holds_high : (l : Limit) (last n : ℕ) → holds l last n ≡ true → n ≤ l.high
holds_high l last n e =
    by_test (is_none l n) (λ d. omega (arith, none_zero l n d))
    (λ d. within_high l last n (holds_within l last n e d))

-- each number is at most its limit's high end
at_most : (ls : List Limit) (last : ℕ) (ns : List ℕ) → all_hold ls last ns ≡ true
    → (k : ℕ) → get_or ns k 0 ≤ get_or (map (λ (l : Limit). l.high) ls) k 0
unfolding all_hold
at_most [] last [] e k = omega arith
at_most [] last (n ∷ ns) e k = false_true e
at_most (l ∷ ls) last [] e k = omega arith
at_most (l ∷ ls) last (n ∷ ns) e zero = holds_high l last n (both_hold (holds l last n) (all_hold ls n ns) e).0
at_most (l ∷ ls) last (n ∷ ns) e (suc k) = at_most ls n ns (both_hold (holds l last n) (all_hold ls n ns) e).1 k

-- and at least its low end, but for one of which there may be none
abbrev pub least_of : Limit → ℕ
least_of l = cond (or_none l.rule) 0 l.low

holds_low : (l : Limit) (last n : ℕ) → holds l last n ≡ true → least_of l ≤ n
holds_low l last n e =
    by_test (or_none l.rule) (λ d. rw d (omega arith))
    (λ d. rw d (leb-true l.low n (both_hold (leb l.low n) _ (rw d at e)).0))

pub at_least : (ls : List Limit) (last : ℕ) (ns : List ℕ) → all_hold ls last ns ≡ true
    → (k : ℕ) → k < length ns → get_or (map least_of ls) k 0 ≤ get_or ns k 0
unfolding all_hold
at_least [] last [] e k h = omega arith
at_least [] last (n ∷ ns) e k h = false_true e
at_least (l ∷ ls) last [] e k h = absurd (omega arith)
at_least (l ∷ ls) last (n ∷ ns) e zero h = holds_low l last n (both_hold (holds l last n) (all_hold ls n ns) e).0
at_least (l ∷ ls) last (n ∷ ns) e (suc k) h =
    at_least ls n ns (both_hold (holds l last n) (all_hold ls n ns) e).1 k (omega arith)

-- of the words before the fittings, by themselves
pub run_most : (s : List ℕ) → all_hold (limits_on (drop 1 lines)) 0 (take fittings_at s) ≡ true
    → (place : ℕ) → place < fittings_at → get_or s place 0 ≤ high_at place
unfolding limits_on
run_most s e place l =
    rw (get_or-take fittings_at s place 0 l) at (at_most (limits_on (drop 1 lines)) 0 (take fittings_at s) e place)
