-- A line that stops with 2 at a place: its reader comes as far as the field there, so no field that ended before the
-- place is one that it refuses.
use mathlib.Core.Path.{◌≡◌, ap, ◌∙◌}
use mathlib.Core.Bool.{true, ◌||◌}
use mathlib.Core.List.{List, [], ◌∷◌, ◌++◌}
use Prim.Native.Nat.{ℕ, zero, suc, ◌+◌, ◌-◌, ◌≤◌, ◌<◌}
use native.Mathlib.Omega.{arith}
use borrow.Author.Tests.{eq-eqb}
use lib.Dec.{eqb}
use lib.ListN.{length, take, drop}
use lib.Seq.{drop-append_seam}
use Rattle.answers.specs.Refusals.{broken_line}
use Rattle.ground.proofs.Booleans.{by_test, by_equal}
use Rattle.text.specs.Read.{LineRead}
use Rattle.text.specs.Quoted.{tab, feed}
use Rattle.text.specs.Field.{field_of, agreed}
use Rattle.text.specs.declared.Limit.{Limit}
use Rattle.text.specs.Line.{Line, read_numbers, read_line}
use Rattle.text.proofs.Field.{field_stop, field_more, agreed_self}
use Rattle.text.proofs.Limits.{narrow, readable, readable_narrow}
use Rattle.text.proofs.Line.{line_tagged, line_untagged, extent, extent_shift}
use Rattle.fault.specs.Reached.{FieldStops, in_form, in_limit, last_of, tabbed, NumbersStop}
use Rattle.fault.specs.Reached.{LineStops, in_tag, in_numbers}
use Rattle.fault.proofs.Ended.{after_field, after_later}
use Rattle.fault.proofs.LineSettled.{numbers_read_on}

-- wherever a field stands, it ends no sooner than the first
pub first_field : (t : List ℕ) (j : ℕ) → length (field_of t) < after_field t j
unfolding field_of
first_field [] j = omega arith
first_field (b ∷ t) zero = omega arith
first_field (b ∷ t) (suc j) =
    by_test (eqb b tab || eqb b feed) (λ e. rw (field_stop b t e) (omega arith))
    (λ e. rw (field_more b t e) (omega (arith, first_field t j)))

-- what stands after x, and x before it
pub after_led : (x t : List ℕ) (into j : ℕ) → length x ≤ j → into < after_field t (j - length x)
    → length x + into < after_field (x ++ t) j
after_led x t into j h a =
    let c : j ≡ length x + (j - length x) = omega arith in
    rw c (omega (arith, after_later x t (j - length x)))

-- ---- numbers

field_reach : (here : Limit) (more : List Limit) (last : ℕ) (t : List ℕ) (k j : ℕ)
    → FieldStops broken_line here more last t k
    → k < after_field t j
field_reach here more last t k j (in_form q h) = omega (arith, first_field t j)
field_reach here more last t k j (in_limit q z o) = absurd (omega arith)

numbers_reach : (ls : List Limit) (last : ℕ) (t : List ℕ) (k j : ℕ) → narrow ls ≡ true
    → NumbersStop broken_line ls last t k
    → extent (read_numbers ls last t).ended ≤ j
    → k < after_field t j
numbers_reach ls last t k j w p h =
    let x : List ℕ = tabbed p.done p.before in
    let r : LineRead = (read_numbers (p.here ∷ p.later) (last_of last p.before) p.rest).ended in
    let v : narrow (p.done ++ (p.here ∷ p.later)) ≡ true = rw p.limits at w in
    let e : extent (read_numbers ls last t).ended ≡ length x + extent r =
    rw (p.text, p.limits)
    (ap extent (numbers_read_on p.done p.here p.later last p.before p.rest v p.many p.held)
    ∙ extent_shift _ r) in
    let f = field_reach p.here p.later (last_of last p.before) p.rest p.into (j - length x) p.stops in
    rw (p.place, p.text) (after_led x p.rest p.into j (omega (arith, e)) f)

-- ---- a line

-- so many bytes as are the tag's agree with it
agreed_taken : (k : ℕ) (s t : List ℕ) → k ≤ length s → take k t ≡ take k s → k ≤ agreed s t
unfolding agreed
agreed_taken zero s t h e = omega arith
agreed_taken (suc k) [] t h e = absurd (omega arith)
agreed_taken (suc k) (a ∷ s) [] h e = absurd (omega (arith, ap length e))
agreed_taken (suc k) (a ∷ s) (b ∷ t) h e =
    let q : b ≡ a = cc in
    rw (eq-eqb b a q, agreed) (omega (arith, agreed_taken k s t (omega arith) (ap (drop 1) e)))

pub line_reach : (l : Line) (t : List ℕ) (k j : ℕ) → readable l.limits ≡ true → LineStops broken_line l t k
    → extent (read_line l t).ended ≤ j
    → k < after_field t j
line_reach l t k j w (in_tag q a e) h =
    let n : k ≤ agreed l.tag t = agreed_taken k l.tag t (omega arith) e in
    by_equal (agreed l.tag t) (length l.tag)
    (λ d.
    let r : LineRead = (read_numbers l.limits 0 (drop (length l.tag) t)).ended in
    let g : extent (read_line l t).ended ≡ length l.tag + extent r =
    rw (line_tagged l t d) (extent_shift (length l.tag) r) in
    omega (arith, g))
    (λ d.
    let g : extent (read_line l t).ended ≡ agreed l.tag t = rw (line_untagged l t d) in
    omega (arith, g))
line_reach l t k j w (in_numbers rest into q e p) h =
    let r : LineRead = (read_numbers l.limits 0 rest).ended in
    let a = line_tagged l (l.tag ++ rest) (agreed_self l.tag rest) in
    let g : extent (read_line l t).ended ≡ length l.tag + extent r =
    rw (q, a, drop-append_seam l.tag rest) (extent_shift (length l.tag) r) in
    let v = readable_narrow l.limits w in
    let n = numbers_reach l.limits 0 rest into (j - length l.tag) v p (omega (arith, g)) in
    rw (e, q) (after_led l.tag rest into j (omega (arith, g)) n)
