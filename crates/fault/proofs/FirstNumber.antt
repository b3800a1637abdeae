-- The first number of a line: read, it leaves the rest to decide, and a refusal after it stands after a number within
-- its limit; refused, the line stops there.
use mathlib.Core.Path.{◌≡◌, refl, ap, ◌∙◌}
use mathlib.Core.List.{List, [], ◌∷◌, ◌++◌, append_assoc}
use Prim.Native.Nat.{ℕ, suc, ◌+◌}
use native.Mathlib.Omega.{arith}
use lib.ListN.{drop, length-append}
use Rattle.text.specs.Read.{Number, Misread}
use Rattle.text.specs.Read.{Fault}
use Rattle.text.specs.Quoted.{tab}
use Rattle.text.specs.declared.Limit.{Limit}
use Rattle.text.specs.Limit.{all_hold}
use Rattle.text.specs.Line.{ender, read_entry, entry_text}
use Rattle.text.proofs.EntryTrip.{Back, entry_back}
use Rattle.fault.specs.Rules.{Rule, Then, Entry}
use Rattle.fault.specs.Reached.{EndedBy, tabbed, NumbersStop, Refusal}
use Rattle.fault.proofs.Rules.{Some, Goes}
use Rattle.fault.proofs.Choice.{AgreeFrom, from_faulty}
use Rattle.fault.proofs.Going.{goes_led}
use Rattle.fault.proofs.Entry.{sure_entry, entry_by_lem}
use Rattle.fault.proofs.EntryTold.{ended_ends, entry_field, entry_refused}
use Rattle.fault.proofs.OtherEnd.{Comes, broken}

pub entry_goes : {S : Rule} {e : ℕ} (l : Limit) (ls : List Limit) (last : ℕ) (t : List ℕ) (n k : ℕ) → EndedBy ls e
    → read_entry l last e t ≡ Number n k
    → Some S
    → Goes S (Then (Entry l.rule e) S) t k
entry_goes {S} {e} l ls last t n k by v s =
    let f = entry_field l ls last e t by S s n k v in
    let r = entry_by_lem l.rule e (entry_text l n) f in
    goes_led (sure_entry l.rule e (ended_ends by)) r (entry_back l last e t n k v).led

-- the first field is refused, with a byte that may end it: so are the numbers, where no other rule is left for them
pub first_refused : {S R : Rule} {e : ℕ} (l : Limit) (ls : List Limit) (last : ℕ) (t : List ℕ) (number k m at : ℕ)
    → EndedBy ls e
    → read_entry l last e t ≡ Misread m at
    → Fault m at ≡ Fault number k
    → ((j : ℕ) → Comes (read_entry l last e t) j → AgreeFrom (Then (Entry l.rule e) S) R t j)
    → Some S
    → Refusal R (λ n. NumbersStop n (l ∷ ls) last) t number k
unfolding tabbed all_hold
first_refused {S} {e = e} l ls last t number k m at by v f a s =
    let y : m ≡ number = cc in
    let z : at ≡ k = cc in
    let r : read_entry l last e t ≡ Misread number k = v ∙ rw (y, z) in
    let p = entry_refused l ls last e t by S s number k r in
    record {
      form = λ q. from_faulty (a k (broken (r ∙ rw q))) (omega arith) (p.form q);
      limits = record {
        before = [];
        done = [];
        here = l;
        later = ls;
        rest = t;
        into = k;
        limits = refl;
        many = refl;
        held = refl;
        text = refl;
        place = omega arith;
        stops = p.limits;
      };
    }

-- what must end a number with others to come
pub more_tab : (done : List Limit) (here : Limit) (later : List Limit) → ender (done ++ (here ∷ later)) ≡ tab
more_tab [] here later = refl
more_tab (l ∷ done) here later = refl

-- a refusal after a number within its limits
pub stop_after : {number last n j k i : ℕ} (l : Limit) (ls : List Limit) (t : List ℕ) → Back l last (ender ls) t n j
    → k ≡ j + i
    → NumbersStop number ls n (drop j t) i
    → NumbersStop number (l ∷ ls) last t k
unfolding tabbed all_hold
stop_after {last = last} {n = n} {j = j} l ls t b q p =
    let x : List ℕ = entry_text l n in
    let y : List ℕ = tabbed p.done p.before in
    let z : (x ++ (tab ∷ [])) ++ (y ++ p.rest) ≡ (x ++ (tab ∷ y)) ++ p.rest = simp append_assoc in
    let d : ender ls ≡ tab = ap ender p.limits ∙ more_tab p.done p.here p.later in
    let g : Back l last tab t n j = rw d at b in
    record {
      before = n ∷ p.before;
      done = l ∷ p.done;
      here = p.here;
      later = p.later;
      rest = p.rest;
      into = p.into;
      limits = ap (λ (w : List Limit). l ∷ w) p.limits;
      many = ap suc p.many;
      held = rw (g.held, p.held);
      text = g.led.start ∙ ap (λ (w : List ℕ). (x ++ (tab ∷ [])) ++ w) p.text ∙ z;
      place = omega (arith, q, p.place, g.led.count, length-append x (tab ∷ []), length-append x (tab ∷ y));
      stops = p.stops;
    }
