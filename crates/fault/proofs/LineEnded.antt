-- A line in which a limit is broken: the numbers before it are by the rules as they are written, and so is the field
-- itself with its end.
use mathlib.Core.Path.{◌≡◌, refl}
use mathlib.Core.Bool.{true}
use mathlib.Core.Logic.{inl, inr}
use mathlib.Core.List.{List, [], ◌∷◌, ◌++◌, append_assoc}
use Prim.Native.Nat.{ℕ, suc, ◌+◌}
use native.Mathlib.Omega.{arith}
use lib.Dec.{eqb, ltb}
use lib.ListN.{length, length-append}
use lib.Seq.{drop-append_seam, take-append-add}
use Rattle.answers.specs.Refusals.{outside_limits}
use Rattle.ground.proofs.Booleans.{both_hold, by_test}
use Rattle.text.specs.Read.{Taken}
use Rattle.text.specs.Quoted.{tab}
use Rattle.text.specs.Field.{field_of}
use Rattle.text.specs.Number.{eleven_digits, digits_of}
use Rattle.text.specs.declared.Limit.{Limit}
use Rattle.text.specs.Limit.{or_none, is_none, holds, all_hold}
use Rattle.text.specs.Line.{Line, read_line, entry_text, line_text}
use Rattle.text.proofs.Limits.{narrow, readable, readable_narrow, holds_small}
use Rattle.text.proofs.LineTrip.{line_forth}
use Rattle.fault.specs.Rules.{Rule, Then, Field, in_digits, as_dash, Entry, FieldsThen, LineThen}
use Rattle.fault.specs.Reached.{EndedBy, as_due, short, Outside, FieldStops, in_form, in_limit}
use Rattle.fault.specs.Reached.{tabbed, NumbersStop, LineStops, in_tag, in_numbers}
use Rattle.fault.proofs.Rules.{Some}
use Rattle.fault.proofs.Stopped.{small_numeral}
use Rattle.fault.proofs.Entry.{entry_by_lem, entered, field_whole}
use Rattle.fault.proofs.EntryTold.{ended_ends}
use Rattle.fault.proofs.Short.{some_fields}
use Rattle.fault.proofs.FirstNumber.{more_tab}
use Rattle.fault.proofs.Line.{line_goes}
use Rattle.fault.proofs.Ended.{Ended, ended_later, ended_wider}

-- a number within its limit is a field as it is written
held_field : (l : Limit) (last n : ℕ) → ltb l.high eleven_digits ≡ true → holds l last n ≡ true
    → Field l.rule (entry_text l n)
held_field l last n w h =
    by_test (is_none l n)
    (λ e. rw e (as_dash (both_hold (or_none l.rule) (eqb n 0) e).0 refl))
    (λ e. rw e (in_digits (small_numeral n (holds_small l last n w h))))

-- a number outside its limit, with its end, and then some text by S
field_ended : {S : Rule} (here : Limit) (more : List Limit) (last : ℕ) (t : List ℕ) (o : Outside here more last t)
    → Some S
    → Ended (Then (Entry here.rule o.end) S) t 0
field_ended here more last t o s =
    let d : List ℕ = digits_of o.value in
    let e : ℕ = o.end in
    let f : Field here.rule d = in_digits (small_numeral o.value o.few) in
    let a : field_of (d ++ (e ∷ o.rest)) ≡ d = field_whole here.rule e (ended_ends o.ended) d o.rest f in
    let n : 0 + suc (length d) ≡ length d + 1 = omega arith in
    rw o.text (record {
      inside = rw a (omega (arith, length-append d (e ∷ o.rest)));
      begun = rw (a, n, take-append-add d (e ∷ o.rest) 1) (record {
        rest = s.rest;
        whole = record {
          one = d ++ (e ∷ []);
          two = s.rest;
          joined = refl;
          by_one = entry_by_lem here.rule e d f;
          by_two = s.whole;
        };
      });
    })

module _ (S : Rule) where
  -- numbers within the first of the limits, and then whatever is by the rest
  fields_written : (done : List Limit) (here : Limit) (later : List Limit) (last : ℕ) (ns u : List ℕ)
      → narrow (done ++ (here ∷ later)) ≡ true
      → length ns ≡ length done
      → all_hold done last ns ≡ true
      → FieldsThen (here ∷ later) S u
      → FieldsThen (done ++ (here ∷ later)) S (tabbed done ns ++ u)
  unfolding tabbed all_hold narrow
  fields_written [] here later last [] u w m h s = s
  fields_written [] here later last (n ∷ ns) u w m h s = absurd (omega arith)
  fields_written (l ∷ done) here later last [] u w m h s = absurd (omega arith)
  fields_written (l ∷ done) here later last (n ∷ ns) u w m h s =
      let ls : List Limit = done ++ (here ∷ later) in
      let y : List ℕ = tabbed done ns in
      let ws = both_hold (ltb l.high eleven_digits) (narrow ls) w in
      let hs = both_hold (holds l last n) (all_hold done n ns) h in
      rw (append_assoc (entry_text l n) (tab ∷ y) u, more_tab done here later)
      (inl
      (entered l.rule tab refl (FieldsThen ls S) (entry_text l n) (y ++ u)
      (held_field l last n ws.0 hs.0)
      (fields_written done here later n ns u ws.1 (omega arith) hs.1 s)))

  stops_ended : (here : Limit) (more : List Limit) (last : ℕ) (t : List ℕ) (k : ℕ) → Some S
      → FieldStops outside_limits here more last t k
      → Ended (FieldsThen (here ∷ more) S) t k
  stops_ended here more last t k s (in_form q h) = absurd (omega arith)
  stops_ended here more last t k s (in_limit q z o) = rw z (go o.ended)
    where
      go : EndedBy more o.end → Ended (FieldsThen (here ∷ more) S) t 0
      go (as_due d) = ended_wider (λ x w. inl (rw d at w)) (field_ended here more last t o (some_fields more s))
      go (short p d) = ended_wider (λ x w. inr (p, rw d at w)) (field_ended here more last t o s)

  numbers_ended : (ls : List Limit) (last : ℕ) (t : List ℕ) (k : ℕ) → narrow ls ≡ true
      → Some S
      → NumbersStop outside_limits ls last t k
      → Ended (FieldsThen ls S) t k
  numbers_ended ls last t k w s p =
      let e = stops_ended p.here p.later _ p.rest p.into s p.stops in
      rw (p.text, p.place)
      (ended_later (tabbed p.done p.before)
      (λ u q.
      let v : narrow (p.done ++ (p.here ∷ p.later)) ≡ true = rw p.limits at w in
      rw p.limits
      (fields_written p.done p.here p.later last p.before u v p.many p.held q))
      e)

  pub line_ended : (l : Line) (t : List ℕ) (k : ℕ) → readable l.limits ≡ true
      → Some S
      → LineStops outside_limits l t k
      → Ended (LineThen l S) t k
  line_ended l t k w s (in_tag q h x) = absurd (omega arith)
  line_ended l t k w s (in_numbers rest into q e p) =
      rw (q, e)
      (ended_later l.tag (λ u z. record { one = l.tag; two = u; joined = refl; by_one = refl; by_two = z })
      (numbers_ended l.limits 0 rest into (readable_narrow l.limits w) s p))

  -- a line within its limits, as it is written, and then a text by S
  pub line_written : (l : Line) (ns u : List ℕ) → readable l.limits ≡ true
      → all_hold l.limits 0 ns ≡ true
      → S u
      → LineThen l S (line_text l ns ++ u)
  line_written l ns u w h s =
      let x : List ℕ = line_text l ns in
      let e : (read_line l (x ++ u)).ended ≡ Taken (length x) = rw (line_forth l ns u w h) in
      (line_goes l (x ++ u) (length x) e (record { rest = u; whole = s })).by (rw (drop-append_seam x u) s)
