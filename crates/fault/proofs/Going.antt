-- Readings one after another: what was read well leaves the rest of the text to decide.
use mathlib.Core.Path.{◌≡◌, refl}
use mathlib.Core.List.{List, ◌++◌}
use Prim.Native.Nat.{ℕ, ◌+◌}
use native.Mathlib.Nat.{add_assoc, zero-add}
use lib.ListN.{drop}
use lib.Seq.{drop-drop}
use Rattle.ground.proofs.Booleans.{false_true}
use Rattle.text.specs.Read.{LineRead}
use Rattle.text.specs.Read.{Taken, Fault}
use Rattle.text.specs.Read.{shift_by}
use Rattle.text.proofs.Led.{Led}
use Rattle.fault.specs.Rules.{Rule, Then}
use Rattle.fault.proofs.Rules.{Some, Sure, later, Goes}

-- how a reading that was refused after j bytes was
pub shift_fault : (j : ℕ) (r : LineRead) (number k : ℕ) → shift_by j r ≡ Fault number k
    → (i : ℕ) × (r ≡ Fault number i) × (k ≡ j + i)
shift_fault j (Taken i) number k e = false_true (cc)
shift_fault j (Fault n i) number k e = (i, cc, cc)

-- nothing was read
pub goes_none : {S : Rule} {t : List ℕ} {k : ℕ} → k ≡ 0 → Goes S S t k
goes_none e = record { by = λ s. rw e at s; on = λ j p. rw (e, zero-add j) (rw e at p) }

-- a text by R was read
pub goes_led : {R S : Rule} {x t : List ℕ} {k : ℕ} → Sure R → R x → Led x t k → Goes S (Then R S) t k
goes_led {R} {S} {x} {t} {k} sure r led =
    record {
      by = λ s. record { one = x; two = drop k t; joined = led.start; by_one = r; by_two = s };
      on = λ j p. rw (led.count, led.start) (later x sure r p);
    }

-- and then more
pub goes_more : {Q S R : Rule} {t : List ℕ} {i j k : ℕ} → i ≡ j + k
    → Goes S R t j
    → Goes Q S (drop j t) k
    → Goes Q R t i
goes_more {t = t} {j = j} {k = k} e g h =
    record {
      by = λ q. g.by (h.by (rw (drop-drop k j t, ← e) q));
      on = λ i q. rw (e, add_assoc j k i) (g.on (k + i) (h.on i (rw (drop-drop k j t, ← e) q)));
    }

-- a text by R, and some text by S after it
pub some_then : {R S : Rule} (x : List ℕ) → R x → Some S → Some (Then R S)
some_then x r s =
    record {
      rest = x ++ s.rest;
      whole = record { one = x; two = s.rest; joined = refl; by_one = r; by_two = s.whole };
    }
