-- A line up to a place, read: numbers within their limits are taken as they are written, and the rest of the line
-- decides; a number outside its limit is refused with 3 there.
use mathlib.Core.Path.{◌≡◌, refl, sym, ap, ◌∙◌}
use mathlib.Core.Bool.{true, false, ◌&&◌, and-false}
use mathlib.Core.List.{List, [], ◌∷◌, ◌++◌, append-nil, append_assoc}
use Prim.Native.Nat.{ℕ, ◌+◌}
use native.Mathlib.Nat.{add_assoc, zero-add}
use native.Mathlib.Omega.{arith}
use borrow.Author.Tests.{eq-eqb}
use lib.Dec.{ltb}
use lib.ListN.{length, drop, length-append}
use lib.Seq.{drop-append_seam, drop-drop}
use Rattle.answers.specs.Refusals.{outside_limits}
use Rattle.ground.proofs.Booleans.{both_hold}
use Rattle.text.specs.Read.{Number, Misread}
use Rattle.text.specs.Read.{LineRead}
use Rattle.text.specs.Read.{Taken, Fault}
use Rattle.text.specs.Quoted.{tab, feed}
use Rattle.text.specs.Field.{field_of, begins}
use Rattle.text.specs.Number.{eleven_digits, digits_of}
use Rattle.text.specs.declared.Limit.{Limit}
use Rattle.text.specs.Limit.{holds, spare, all_hold}
use Rattle.text.specs.Line.{Line, ender, stops_short, read_entry, read_numbers, read_line, entry_text}
use Rattle.text.specs.Read.{shift_by}
use Rattle.text.proofs.Field.{field_stop, agreed_self}
use Rattle.text.proofs.NumberTrip.{written_reads, field_digits, no_dash}
use Rattle.text.proofs.Limits.{narrow, readable, readable_narrow, holds_small}
use Rattle.text.proofs.Entry.{outside}
use Rattle.text.proofs.EntryTrip.{entry_field, entry_forth}
use Rattle.text.proofs.Line.{numbers_short, numbers_whole, line_tagged}
use Rattle.fault.specs.Reached.{EndedBy, as_due, short, Outside, FieldStops, in_form, in_limit}
use Rattle.fault.specs.Reached.{last_of, tabbed, NumbersStop, LineStops, in_tag, in_numbers}
use Rattle.fault.proofs.EntryTold.{ended_ends}
use Rattle.fault.proofs.FirstNumber.{more_tab}

-- ---- numbers within their limits

shift_none : (r : LineRead) → shift_by 0 r ≡ r
shift_none (Taken n) = ap Taken (zero-add n)
shift_none (Fault number at) = ap (Fault number) (zero-add at)

shift_more : (j k : ℕ) (r : LineRead) → shift_by j (shift_by k r) ≡ shift_by (j + k) r
shift_more j k (Taken n) = ap Taken (sym (add_assoc j k n))
shift_more j k (Fault number at) = ap (Fault number) (sym (add_assoc j k at))

-- numbers within their limits are read, and what follows them after the last of them
pub numbers_read_on : (done : List Limit) (here : Limit) (later : List Limit) (last : ℕ) (ns rest : List ℕ)
    → narrow (done ++ (here ∷ later)) ≡ true
    → length ns ≡ length done
    → all_hold done last ns ≡ true
    → (read_numbers (done ++ (here ∷ later)) last (tabbed done ns ++ rest)).ended
    ≡ shift_by (length (tabbed done ns)) (read_numbers (here ∷ later) (last_of last ns) rest).ended
unfolding tabbed all_hold narrow
numbers_read_on [] here later last [] rest w m h = sym (shift_none (read_numbers (here ∷ later) last rest).ended)
numbers_read_on [] here later last (n ∷ ns) rest w m h = absurd (omega arith)
numbers_read_on (l ∷ done) here later last [] rest w m h = absurd (omega arith)
numbers_read_on (l ∷ done) here later last (n ∷ ns) rest w m h =
    let ls : List Limit = done ++ (here ∷ later) in
    let hs = both_hold (holds l last n) (all_hold done n ns) h in
    let ws = both_hold (ltb l.high eleven_digits) (narrow ls) w in
    let x : List ℕ = entry_text l n in
    let more : List ℕ = tabbed done ns in
    let u : List ℕ = more ++ rest in
    let small = holds_small l last n ws.0 hs.0 in
    let f : read_entry l last (ender ls) (x ++ (tab ∷ u)) ≡ Number n (length x + 1) =
    rw (more_tab done here later) (entry_forth l last tab n u refl hs.0 small) in
    let b : stops_short ls (x ++ (tab ∷ u)) ≡ false =
    rw (entry_field l n tab u refl, drop-append_seam x (tab ∷ u), and-false (spare ls)) in
    let d : drop (length x + 1) (x ++ (tab ∷ u)) ≡ u =
    sym (drop-drop 1 (length x) _) ∙ rw (drop-append_seam x (tab ∷ u)) in
    let c : length x + 1 + length more ≡ length (x ++ (tab ∷ more)) = rw length-append (omega arith) in
    let r : LineRead = (read_numbers (here ∷ later) (last_of n ns) rest).ended in
    let s = shift_more (length x + 1) (length more) r in
    let i = numbers_read_on done here later n ns rest ws.1 (omega arith) hs.1 in
    rw (append_assoc x (tab ∷ more) rest, numbers_whole l ls last (x ++ (tab ∷ u)) b, f, d, i, s, c)

-- ---- and then one outside

-- what ends a number as it must leaves nothing out
due_whole : (more : List Limit) (rest : List ℕ) → (spare more && begins feed (ender more ∷ rest)) ≡ false
due_whole [] rest = refl
due_whole (l ∷ ls) rest = and-false (spare (l ∷ ls))

outside_read : (here : Limit) (more : List Limit) (last : ℕ) (t : List ℕ) → Outside here more last t
    → (read_numbers (here ∷ more) last t).ended ≡ Fault outside_limits 0
outside_read here more last t o =
    let n : ℕ = o.value in
    let u : List ℕ = o.end ∷ o.rest in
    let g : field_of (digits_of n ++ u) ≡ digits_of n =
    field_digits n u ∙ rw (field_stop o.end o.rest (ended_ends o.ended), append-nil) in
    let d : drop (length (field_of (digits_of n ++ u))) (digits_of n ++ u) ≡ u =
    rw g (drop-append_seam (digits_of n) u) in
    let r : read_entry here last o.end (digits_of n ++ u) ≡ Misread outside_limits 0 =
    outside (record { undashed = rw (no_dash n u, and-false); field = sym g; read = written_reads n o.few })
    (rw (drop-append_seam (digits_of n) u) (eq-eqb o.end o.end refl)) o.outside in
    rw o.text (go (digits_of n ++ u) o.ended d r)
  where
    go : (x : List ℕ) → EndedBy more o.end → drop (length (field_of x)) x ≡ o.end ∷ o.rest
        → read_entry here last o.end x ≡ Misread outside_limits 0
        → (read_numbers (here ∷ more) last x).ended ≡ Fault outside_limits 0
    go x (as_due q) d r =
        let c : stops_short more x ≡ false = rw (d, q) (due_whole more o.rest) in
        rw (numbers_whole here more last x c, ← q, r)
    go x (short p q) d r =
        let c : stops_short more x ≡ true = rw (d, q, p) in
        rw (numbers_short here more last x c, ← q, r)

field_settled : (here : Limit) (more : List Limit) (last : ℕ) (t : List ℕ) (k : ℕ)
    → FieldStops outside_limits here more last t k
    → (read_numbers (here ∷ more) last t).ended ≡ Fault outside_limits k
field_settled here more last t k (in_form q h) = absurd (omega arith)
field_settled here more last t k (in_limit q z o) = rw z (outside_read here more last t o)

numbers_settled : (ls : List Limit) (last : ℕ) (t : List ℕ) (k : ℕ) → narrow ls ≡ true
    → NumbersStop outside_limits ls last t k
    → (read_numbers ls last t).ended ≡ Fault outside_limits k
numbers_settled ls last t k w p =
    let v : narrow (p.done ++ (p.here ∷ p.later)) ≡ true = rw p.limits at w in
    let f = field_settled p.here p.later (last_of last p.before) p.rest p.into p.stops in
    let n = numbers_read_on p.done p.here p.later last p.before p.rest v p.many p.held in
    rw (p.text, p.place, p.limits) (rw f at n)

pub line_settled : (l : Line) (t : List ℕ) (k : ℕ) → readable l.limits ≡ true → LineStops outside_limits l t k
    → (read_line l t).ended ≡ Fault outside_limits k
line_settled l t k w (in_tag q h x) = absurd (omega arith)
line_settled l t k w (in_numbers rest into q e p) =
    let a = line_tagged l (l.tag ++ rest) (agreed_self l.tag rest) in
    let n = numbers_settled l.limits 0 rest into (readable_narrow l.limits w) p in
    rw (q, e, a, drop-append_seam l.tag rest, n)
