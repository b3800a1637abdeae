-- What `print_plates` does with room for the longest: it never refuses, and the bytes that it counts are those printed.
use mathlib.Core.Path.{◌≡◌, sym, ◌∙◌}
use mathlib.Core.List.{List}
use Prim.Native.Nat.{ℕ, ◌≤◌}
use native.Mathlib.Omega.{arith}
use borrow.Author.Tests.{le-leb}
use lib.ListN.{length, take, drop}
use lib.Seq.{length-take-le, take-append_seam}
use Rattle.std.specs.Counts.{IsPrefixLen}
use Rattle.answers.specs.Settled.{Settled}
use Rattle.answers.specs.Answer.{Answer}
use Rattle.answers.specs.Answer.{Count}
use Rattle.printout.specs.Printed.{printed, print_answer, print_into}
use Rattle.printout.proofs.Most.{most_printed, printed_most}
use Rattle.printout.proofs.PrintCall.{room_enough}

module _ (t o : List ℕ) (room : most_printed ≤ length o) where
  -- the buffer starts with what is printed
  starts_printed : take (length (printed t)) (print_into t o) ≡ printed t
  unfolding print_into
  starts_printed =
      rw (le-leb (length (printed t)) (length o) (omega (arith, printed_most t)))
      (take-append_seam (printed t) (drop (length (printed t)) o))

  -- the promise, kept with an answer of n, leaves n bytes that are what is printed
  pub prints : {o₁ : List ℕ} {r : Answer} {n : ℕ}
      → length o₁ ≡ length o
      → Settled (print_answer t (length o)) (print_into t o) r o₁
      → r ≡ Count n
      → IsPrefixLen n o₁ × (take n o₁ ≡ printed t)
  prints {o₁ = o₁} {n = n} same settled e =
      let k : Count n ≡ Count (length (printed t)) = sym e ∙ settled.answered ∙ room_enough t (length o) room in
      let m : n ≡ length (printed t) = cc in
      let few : n ≤ length o₁ = omega (arith, printed_most t) in
      ((few, sym (length-take-le n o₁ few)), rw (m, settled.kept) starts_printed)

  -- it has an answer of that case
  pub counts : {o₁ : List ℕ} {r : Answer}
      → Settled (print_answer t (length o)) (print_into t o) r o₁
      → r ≡ Count (length (printed t))
  counts settled = settled.answered ∙ room_enough t (length o) room
