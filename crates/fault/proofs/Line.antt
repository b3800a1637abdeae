-- A line of any form that is read, with a text by another rule after it: what is taken leaves the rest to decide; what
-- is refused goes wrong at its place, or breaks a limit there, and is within its limits before.
use mathlib.Core.Path.{◌≡◌, refl, ap, ◌∙◌}
use mathlib.Core.Logic.{◌≢◌}
use mathlib.Core.List.{List, [], ◌∷◌, ◌++◌}
use Prim.Native.Nat.{ℕ, suc, ◌+◌, ◌<◌}
use native.Mathlib.Omega.{arith}
use borrow.Author.Tests.{eq-eqb, ne_eqb}
use lib.ListN.{length, drop}
use Rattle.answers.specs.Refusals.{broken_line}
use Rattle.ground.proofs.Booleans.{false_true, by_equal}
use Rattle.text.specs.Read.{Taken, Fault}
use Rattle.text.specs.Field.{agreed}
use Rattle.text.specs.Line.{Line, Reading, read_numbers, read_line}
use Rattle.text.proofs.Field.{agreed_whole, agreed_most, agreed_take}
use Rattle.text.proofs.Led.{Led}
use Rattle.text.proofs.Line.{line_tagged, line_untagged}
use Rattle.text.proofs.NumbersTrip.{shift_taken}
use Rattle.fault.specs.Rules.{Rule, Just, Then, FieldsThen, LineThen}
use Rattle.fault.specs.Faulty.{Faulty}
use Rattle.fault.specs.Reached.{LineStops, in_tag, in_numbers, NumbersStop, Refusal}
use Rattle.fault.proofs.Rules.{Some, sure_just, later, alike, Goes}
use Rattle.fault.proofs.Going.{shift_fault, goes_led, goes_more, some_then}
use Rattle.fault.proofs.Short.{some_fields}
use Rattle.fault.proofs.Numbers.{numbers_go, numbers_refused}

pub some_line : {S : Rule} (l : Line) → Some S → Some (LineThen l S)
some_line l s = some_then l.tag refl (some_fields l.limits s)

-- ---- the tag

-- a first byte that is not the tag's
tag_clash : {S : Rule} (a b : ℕ) (s y : List ℕ) → b ≢ a → Then (Just (a ∷ s)) S (b ∷ y) → ⊥
tag_clash a b s y n p =
    let q : b ∷ y ≡ a ∷ (s ++ p.two) = p.joined ∙ ap (λ (x : List ℕ). x ++ p.two) p.by_one in
    let z : b ≡ a = cc in
    n z

-- the tag's first byte, and then its others
tag_out : {S : Rule} (a : ℕ) (s x : List ℕ) → Then (Just (a ∷ [])) (Then (Just s) S) x → Then (Just (a ∷ s)) S x
tag_out a s x p =
    record {
      one = a ∷ s;
      two = p.by_two.two;
      joined = p.joined ∙ rw (p.by_one, p.by_two.joined, p.by_two.by_one);
      by_one = refl;
      by_two = p.by_two.by_two;
    }

tag_back : {S : Rule} (a : ℕ) (s x : List ℕ) → Then (Just (a ∷ s)) S x → Then (Just (a ∷ [])) (Then (Just s) S) x
tag_back a s x p =
    record {
      one = a ∷ [];
      two = s ++ p.two;
      joined = p.joined ∙ rw p.by_one;
      by_one = refl;
      by_two = record { one = s; two = p.two; joined = refl; by_one = refl; by_two = p.by_two };
    }

-- one byte agrees, and the rest goes wrong
tag_further : {S : Rule} {a b k j : ℕ} {s t : List ℕ} → b ≡ a → k ≡ 1 + j
    → Faulty (Then (Just s) S) t j
    → Faulty (Then (Just (a ∷ s)) S) (b ∷ t) k
tag_further {a = a} {s = s} e q p =
    rw (e, q) (alike (tag_out a s) (tag_back a s) (later (a ∷ []) (sure_just (a ∷ [])) refl p))

tag_faulty : {S : Rule} (s t : List ℕ) (k : ℕ) → Some S → agreed s t ≡ k → k ≢ length s → Faulty (Then (Just s) S) t k
unfolding agreed
tag_faulty [] t k some q n = absurd (n (omega (arith, q)))
tag_faulty (a ∷ s) [] k some q n =
    record {
      inside = omega (arith, q);
      wrong = λ p. omega (arith, ap length (p.joined ∙ ap (λ (x : List ℕ). x ++ p.two) p.by_one));
      sound = rw (← q) (some_then (a ∷ s) refl some);
      stuck = λ h. absurd (omega arith);
    }
tag_faulty {S} (a ∷ s) (b ∷ t) k some q n =
    by_equal b a
    (λ e.
    let c : suc (agreed s t) ≡ k = rw (eq-eqb b a e, agreed) at q in
    let p : Faulty (Then (Just s) S) t (agreed s t) = tag_faulty s t (agreed s t) some refl (λ h. n (omega arith)) in
    tag_further e (omega arith) p)
    (λ e.
    let c : 0 ≡ k = rw (ne_eqb b a e, agreed) at q in
    rw (← c)
    (record {
      inside = omega arith;
      wrong = tag_clash a b s t e;
      sound = some_then (a ∷ s) refl some;
      stuck = λ h p. tag_clash a b s p.rest e p.whole;
    }))

-- ---- the whole line

tag_goes : (S : Rule) (l : Line) (t : List ℕ)
    → agreed l.tag t ≡ length l.tag
    → Goes (FieldsThen l.limits S) (LineThen l S) t (length l.tag)
tag_goes S l t d =
    let led : Led l.tag t (length l.tag) = record { start = agreed_whole l.tag t d; count = refl } in
    goes_led (sure_just l.tag) refl led

-- what stands after the tag, read
abbrev numbers : Line → List ℕ → Reading
numbers l t = read_numbers l.limits 0 (drop (length l.tag) t)

pub line_goes : {S : Rule} (l : Line) (t : List ℕ) (k : ℕ)
    → (read_line l t).ended ≡ Taken k
    → Some S
    → Goes S (LineThen l S) t k
line_goes {S} l t k e s =
    by_equal (agreed l.tag t) (length l.tag)
    (λ d.
    let q = shift_taken (length l.tag) (numbers l t).ended k (rw (line_tagged l t d) at e) in
    goes_more q.2 (tag_goes S l t d) (numbers_go l.limits 0 (drop (length l.tag) t) q.0 q.1 s))
    (λ d.
    let f : Fault broken_line (agreed l.tag t) ≡ Taken k = rw (line_untagged l t d) at e in
    false_true (cc))

pub line_refused : {S : Rule} (l : Line) (t : List ℕ) (number k : ℕ) → Some S → (read_line l t).ended ≡ Fault number k
    → Refusal (LineThen l S) (λ n. LineStops n l) t number k
line_refused {S} l t number k s e =
    by_equal (agreed l.tag t) (length l.tag)
    (λ d.
    let q = shift_fault (length l.tag) (numbers l t).ended number k (rw (line_tagged l t d) at e) in
    let rest : List ℕ = drop (length l.tag) t in
    let p : Refusal (FieldsThen l.limits S) (λ n. NumbersStop n l.limits 0) rest number q.0 =
    numbers_refused l.limits 0 rest number q.0 s q.1 in
    record {
      form = λ m. rw q.2 ((tag_goes S l t d).on q.0 (p.form m));
      limits = in_numbers rest q.0 (agreed_whole l.tag t d) q.2 p.limits;
    })
    (λ d.
    let f : Fault broken_line (agreed l.tag t) ≡ Fault number k = rw (line_untagged l t d) at e in
    let y : broken_line ≡ number = cc in
    let z : agreed l.tag t ≡ k = cc in
    let h : k < length l.tag = omega (arith, agreed_most l.tag t) in
    record {
      form = λ m. rw (← z) (tag_faulty l.tag t (agreed l.tag t) (some_fields l.limits s) refl d);
      limits = in_tag (omega arith) h (rw (← z) (agreed_take l.tag t));
    })
