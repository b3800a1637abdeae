-- What the call that prints answers and leaves.
use mathlib.Core.Path.{◌≡◌, refl, sym, ap, ◌∙◌}
use mathlib.Core.Bool.{Bool, true, false, cond}
use mathlib.Core.List.{List, ◌++◌}
use Prim.Native.Nat.{ℕ, ◌≤◌, ◌<◌}
use native.Mathlib.Omega.{arith}
use borrow.Author.Tests.{le-leb, lt-leb}
use lib.Dec.{leb}
use lib.ListN.{length, take, drop}
use lib.Seq.{sets, take_at}
use Rattle.text.specs.Line.{Laid}
use Rattle.ground.proofs.Stores.{sets_start}
use Rattle.answers.specs.Answer.{Answer}
use Rattle.answers.specs.Answer.{Refused, Count}
use Rattle.answers.specs.Settled.{Settled}
use Rattle.ground.specs.Lists.{put_first}
use Rattle.answers.specs.Refusals.{no_room}
use Rattle.answers.proofs.Outcomes.{one_outcome}
use Rattle.ground.proofs.Booleans.{false_true}
use Rattle.answers.specs.Values.{is_refusal}
use Rattle.text.proofs.Laid.{laid_length}
use Rattle.printout.specs.Printed.{printed, print_answer, print_into}
use Rattle.printout.proofs.Most.{most_printed, printed_most}

module _ (t o : List ℕ) {zeros bs : List ℕ} {len : ℕ} (p : Laid (printed t) zeros 0 len bs) where
  counted : len ≡ length (printed t)
  counted = omega (arith, p.end)

  pub print_most : len ≤ most_printed
  print_most = omega (arith, counted, printed_most t)

  pub settled_short : length o < len → Settled (print_answer t (length o)) (print_into t o) (Refused no_room) o
  unfolding print_answer print_into
  settled_short h =
      let m : ℕ = length (printed t) in
      let n : leb m (length o) ≡ false = lt-leb m (length o) (omega (arith, counted)) in
      record { answered = rw n; kept = rw n }

  module _ (r : length zeros ≡ most_printed) where
    pub print_in : len ≤ length bs
    print_in = omega (arith, print_most, laid_length p)

    -- the first bytes that were laid are the print
    first_laid : take len bs ≡ printed t
    first_laid =
        ap (take len) (p.laid ∙ sets_start zeros (printed t) (omega (arith, printed_most t)))
        ∙ take_at (printed t) (drop (length (printed t)) zeros) len (sym counted)

    pub settled_print : {o₁ : List ℕ} → len ≤ length o
        → o₁ ≡ sets o 0 (take len bs)
        → Settled (print_answer t (length o)) (print_into t o) (Count len) o₁
    unfolding print_answer print_into
    settled_print {o₁} h w =
        let m : ℕ = length (printed t) in
        let n : leb m (length o) ≡ true = le-leb m (length o) (omega (arith, counted)) in
        let q : o₁ ≡ printed t ++ drop m o =
        w ∙ ap (sets o 0) first_laid ∙ sets_start o (printed t) (omega (arith, counted)) in
        record { answered = rw (n, counted); kept = rw n q }

-- room for the longest print is room for any
pub room_enough : (t : List ℕ) (room : ℕ) → most_printed ≤ room → print_answer t room ≡ Count (length (printed t))
unfolding print_answer
room_enough t room h = rw (le-leb (length (printed t)) room (omega (arith, printed_most t)))

-- a refused print leaves the lent buffer as it stood
pub print_refused : (t out : List ℕ) → is_refusal (print_answer t (length out)) ≡ true → print_into t out ≡ out
unfolding print_answer print_into
print_refused t out = go (leb (length (printed t)) (length out))
  where
    go : (b : Bool) → is_refusal (cond b (Count (length (printed t))) (Refused no_room)) ≡ true
        → cond b (put_first (printed t) out) out ≡ out
    go true e = false_true e
    go false e = refl

-- two outcomes that the call's promise allows are equal
pub one_print_plates : (t o : List ℕ) {r q : Answer} {x y : List ℕ}
    → Settled (print_answer t (length o)) (print_into t o) r x
    → Settled (print_answer t (length o)) (print_into t o) q y
    → (r ≡ q) × (x ≡ y)
one_print_plates t o = one_outcome
