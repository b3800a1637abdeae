-- One line of a sheet, read after what was read before it.
use mathlib.Core.Path.{◌≡◌, refl, ap, ◌∙◌}
use mathlib.Core.List.{List}
use Prim.Native.Nat.{ℕ, ◌+◌, ◌-◌, ◌≤◌}
use native.Mathlib.Omega.{arith}
use lib.ListN.{length, take, drop, length-drop}
use lib.Seq.{sets, length-sets}
use Rattle.text.specs.Read.{LineRead}
use Rattle.text.specs.Read.{Taken, Fault}
use Rattle.text.specs.Line.{Line, Reads, read_line}
use Rattle.text.specs.Read.{shift_by}
use Rattle.ground.proofs.Stores.{put_back, rest_part, part_sets}
use Rattle.text.proofs.Line.{line_extent}
use Rattle.text.specs.Read.{reached}
use Rattle.reading.specs.Steps.{line_from, Next, ReadsOn, Past}
use Rattle.reading.proofs.LineByLine.{one_more}

pub reached_shift : (k : ℕ) (r : LineRead) → reached (shift_by k r) ≡ k + reached r
reached_shift k (Taken n) = refl
reached_shift k (Fault number at) = refl

-- the next line is read as r from the place `at` on, into the part of o from n on
module _ (tag t o : List ℕ) {at n to : ℕ} {r : LineRead} {ys : List ℕ} (d : Next tag n to) (q : Past t n (Taken at) o)
    (p : Reads (read_line (line_from tag n to) (take (length t - at) (drop at t)))
    (take (length o - n) (drop n o)) r ys)
  where
    abbrev line : Line
    line = line_from tag n to

    fed : Reads (read_line line (drop at t)) (drop n o) r ys
    fed = rw (rest_part t at, rest_part o n) at p

    pub line_in : at + reached r ≤ length t
    line_in = omega (arith, q.within, ap reached fed.answer, line_extent line (drop at t), length-drop at t)

    pub goes_on : ReadsOn at line t n o (shift_by at r) (put_back o n ys)
    goes_on =
        let ns : List ℕ = (read_line line (drop at t)).numbers in
        let laid : put_back o n ys ≡ sets o n ns = rw fed.stored (part_sets o n ns) in
        record {
          answer = rw fed.answer;
          stored = laid;
          kept = ap length laid ∙ (length-sets o n ns ∙ q.room);
          within = rw (reached_shift at r) line_in;
        }

    pub one_on : Past t to (shift_by at r) (put_back o n ys)
    one_on = one_more d q goes_on
