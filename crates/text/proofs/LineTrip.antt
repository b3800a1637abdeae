-- From numbers to a line's text and back, and from a text that reads to its numbers and back, whatever the form of the
-- line.
use mathlib.Core.Path.{◌≡◌, refl}
use mathlib.Core.Bool.{true}
use mathlib.Core.List.{List, ◌++◌, append_assoc}
use Prim.Native.Nat.{ℕ}
use lib.ListN.{length, drop, length-append}
use lib.Seq.{drop-append_seam}
use Rattle.text.specs.Read.{Taken, Fault}
use Rattle.text.specs.Field.{agreed}
use Rattle.text.specs.Limit.{all_hold}
use Rattle.text.specs.Line.{Line, read_numbers, read_line}
use Rattle.text.specs.Line.{numbers_text, line_text}
use Rattle.text.proofs.Field.{agreed_whole, agreed_self}
use Rattle.answers.specs.Refusals.{broken_line}
use Rattle.ground.proofs.Booleans.{false_true, by_equal}
use Rattle.text.proofs.Line.{line_tagged, line_untagged}
use Rattle.text.proofs.Led.{Led, led_more}
use Rattle.text.proofs.Limits.{readable}
use Rattle.text.proofs.NumbersTrip.{shift_taken, got, numbers_forth, BackAll, numbers_back}

-- ---- a line

-- of every form: the text of numbers gives those numbers
pub line_forth : (l : Line) (ns rest : List ℕ)
    → readable l.limits ≡ true
    → all_hold l.limits 0 ns ≡ true
    → read_line l (line_text l ns ++ rest) ≡ got (length (line_text l ns)) ns
line_forth l ns rest w h =
    let x : List ℕ = numbers_text l.limits ns in
    let t : line_text l ns ++ rest ≡ l.tag ++ (x ++ rest) = append_assoc l.tag x rest in
    let r = line_tagged l (l.tag ++ (x ++ rest)) (agreed_self l.tag (x ++ rest)) in
    rw (t, r, drop-append_seam l.tag (x ++ rest), numbers_forth l.limits 0 ns rest w h, length-append l.tag x)

-- and what is read is what would be written
pub line_back : (l : Line) (t : List ℕ) (k : ℕ)
    → (read_line l t).ended ≡ Taken k
    → BackAll l.limits 0 (line_text l (read_line l t).numbers) t k (read_line l t).numbers
line_back l t k e =
    by_equal (agreed l.tag t) (length l.tag)
    (λ a.
    let r = line_tagged l t a in
    let rest : List ℕ = drop (length l.tag) t in
    let s = shift_taken (length l.tag) (read_numbers l.limits 0 rest).ended k (rw r at e) in
    let p = numbers_back l.limits 0 rest s.0 s.1 in
    let q : Led l.tag t (length l.tag) = record { start = agreed_whole l.tag t a; count = refl } in
    rw r (record { led = rw s.2 (led_more q p.led); held = p.held }))
    (λ d.
    let f : Fault broken_line (agreed l.tag t) ≡ Taken k = rw (line_untagged l t d) at e in
    false_true (cc))
