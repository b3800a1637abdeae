-- The greatest length of the text of a line's numbers.
use mathlib.Core.Path.{◌≡◌, refl}
use mathlib.Core.Bool.{true}
use mathlib.Core.List.{List, [], ◌∷◌}
use Prim.Native.Nat.{ℕ, suc, ◌+◌, ◌≤◌}
use native.Mathlib.Omega.{arith}
use lib.ListN.{length, length-append}
use Rattle.text.specs.Number.{digits_in, digits_of}
use Rattle.text.specs.declared.Limit.{Limit}
use Rattle.text.specs.Limit.{is_none, holds, all_hold}
use Rattle.text.specs.Line.{Line, closer, entry_text, numbers_text, line_text}
use Rattle.ground.proofs.Booleans.{both_hold, false_true, by_test}
use Rattle.text.proofs.Number.{length_digits_mono}
use Rattle.text.proofs.Limits.{within_high, holds_within}

one_digit : length (digits_of 0) ≡ 1
unfolding digits_of digits_in
one_digit = refl

entry_most : (l : Limit) (last n : ℕ) → holds l last n ≡ true → length (entry_text l n) ≤ length (digits_of l.high)
entry_most l last n h =
    by_test (is_none l n) (λ e. rw e (omega (arith, one_digit, length_digits_mono 0 l.high (omega arith))))
    (λ e. rw e (length_digits_mono n l.high (within_high l last n (holds_within l last n h e))))

unfoldable pub numbers_most : List Limit → ℕ
numbers_most [] = 0
numbers_most (l ∷ ls) = length (digits_of l.high) + suc (numbers_most ls)

pub numbers_most_lem : (ls : List Limit) (last : ℕ) (ns : List ℕ)
    → all_hold ls last ns ≡ true
    → length (numbers_text ls ns) ≤ numbers_most ls
unfolding all_hold numbers_text numbers_most
numbers_most_lem [] last [] h = omega arith
numbers_most_lem [] last (n ∷ ns) h = false_true h
numbers_most_lem (l ∷ ls) last [] h = omega arith
numbers_most_lem (l ∷ ls) last (n ∷ ns) h =
    let p = both_hold (holds l last n) (all_hold ls n ns) h in
    let e = length-append (entry_text l n) (closer ls ns ∷ numbers_text ls ns) in
    omega (arith, e, entry_most l last n p.0, numbers_most_lem ls n ns p.1)

abbrev pub line_most : Line → ℕ
line_most l = length l.tag + numbers_most l.limits

pub line_most_lem : (l : Line) (last : ℕ) (ns : List ℕ)
    → all_hold l.limits last ns ≡ true
    → length (line_text l ns) ≤ line_most l
line_most_lem l last ns h =
    omega (arith, length-append l.tag (numbers_text l.limits ns), numbers_most_lem l.limits last ns h)
