-- The numbers of a line, one field after another: what is taken goes on with the rest of the text, and a refusal stands
-- after numbers within their limits.
use mathlib.Core.Path.{◌≡◌, refl}
use mathlib.Core.List.{List, [], ◌∷◌}
use Prim.Native.Nat.{ℕ, ◌+◌}
use native.Mathlib.Nat.{add-zero}
use lib.ListN.{drop}
use Rattle.ground.proofs.Booleans.{false_true, by_test}
use Rattle.text.specs.Read.{Taken, Fault}
use Rattle.text.specs.Quoted.{feed}
use Rattle.text.specs.declared.Limit.{Limit}
use Rattle.text.specs.Line.{ender, stops_short, read_entry, read_numbers}
use Rattle.text.proofs.Entry.{by_entry}
use Rattle.text.proofs.EntryTrip.{entry_back}
use Rattle.text.proofs.Line.{numbers_short, numbers_whole, short_spare}
use Rattle.text.proofs.NumbersTrip.{shift_taken}
use Rattle.fault.specs.Rules.{Rule, FieldsThen}
use Rattle.fault.specs.Reached.{as_due, short, NumbersStop, Refusal}
use Rattle.fault.proofs.Rules.{Some, Goes}
use Rattle.fault.proofs.Choice.{from_goes}
use Rattle.fault.proofs.Going.{shift_fault, goes_none, goes_more}
use Rattle.fault.proofs.OtherEnd.{as_number}
use Rattle.fault.proofs.Short.{some_fields, agree_short, agree_whole}
use Rattle.fault.proofs.FirstNumber.{entry_goes, first_refused, stop_after}

pub numbers_go : {S : Rule} (ls : List Limit) (last : ℕ) (t : List ℕ) (k : ℕ)
    → (read_numbers ls last t).ended ≡ Taken k
    → Some S
    → Goes S (FieldsThen ls S) t k
unfolding read_numbers
numbers_go [] last t k e s = goes_none (cc)
numbers_go {S} (l ∷ ls) last t k e s =
    by_test (stops_short ls t)
    (λ c.
    let r = numbers_short l ls last t c in
    by_entry (read_entry l last feed t)
    (λ n j v.
    let f : Taken (j + 0) ≡ Taken k = rw (r, v) at e in
    let z : j + 0 ≡ k = cc in
    rw (← z, add-zero j)
    (from_goes (agree_short l ls last t s j c (as_number n v))
    (entry_goes l ls last t n j (short (short_spare ls t c) refl) v s)))
    (λ number at v.
    let f : Fault number at ≡ Taken k = rw (r, v) at e in
    false_true (cc)))
    (λ c.
    let r = numbers_whole l ls last t c in
    by_entry (read_entry l last (ender ls) t)
    (λ n j v.
    let q = shift_taken j (read_numbers ls n (drop j t)).ended k (rw (r, v) at e) in
    let g : Goes S (FieldsThen ls S) (drop j t) q.0 = numbers_go ls n (drop j t) q.0 q.1 s in
    let o = entry_goes l ls last t n j (as_due refl) v (some_fields ls s) in
    goes_more q.2 (from_goes (agree_whole l ls last t s j c (as_number n v)) o) g)
    (λ number at v.
    let f : Fault number at ≡ Taken k = rw (r, v) at e in
    false_true (cc)))

pub numbers_refused : {S : Rule} (ls : List Limit) (last : ℕ) (t : List ℕ) (number k : ℕ) → Some S
    → (read_numbers ls last t).ended ≡ Fault number k
    → Refusal (FieldsThen ls S) (λ n. NumbersStop n ls last) t number k
unfolding read_numbers
numbers_refused [] last t number k s e = false_true (cc)
numbers_refused {S} (l ∷ ls) last t number k s e =
    by_test (stops_short ls t)
    (λ c.
    let r = numbers_short l ls last t c in
    by_entry (read_entry l last feed t)
    (λ n j v.
    let f : Taken (j + 0) ≡ Fault number k = rw (r, v) at e in
    false_true (cc))
    (λ m at v.
    first_refused l ls last t number k m at (short (short_spare ls t c) refl) v (rw (r, v) at e)
    (λ j h. agree_short l ls last t s j c h) s))
    (λ c.
    let r = numbers_whole l ls last t c in
    by_entry (read_entry l last (ender ls) t)
    (λ n j v.
    let q = shift_fault j (read_numbers ls n (drop j t)).ended number k (rw (r, v) at e) in
    let p : Refusal (FieldsThen ls S) (λ m. NumbersStop m ls n) (drop j t) number q.0 =
    numbers_refused ls n (drop j t) number q.0 s q.1 in
    let o = entry_goes l ls last t n j (as_due refl) v (some_fields ls s) in
    let g = from_goes (agree_whole l ls last t s j c (as_number n v)) o in
    record {
      form = λ m. rw q.2 (g.on q.0 (p.form m));
      limits = stop_after l ls t (entry_back l last (ender ls) t n j v) q.2 p.limits;
    })
    (λ m at v.
    first_refused l ls last t number k m at (as_due refl) v (rw (r, v) at e)
    (λ j h. agree_whole l ls last t s j c h) (some_fields ls s)))
