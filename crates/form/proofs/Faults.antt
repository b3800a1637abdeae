-- 01, Refusal numbers: a text of any form is refused with 2 or 3 and with no other number.
use mathlib.Core.Path.{◌≡◌, refl, sym, ◌∙◌}
use mathlib.Core.Bool.{Bool, true, false}
use mathlib.Core.Logic.{◌⊎◌, inl}
use mathlib.Core.List.{List, [], ◌∷◌}
use mathlib.Core.Option.{Option, none, some}
use Prim.Native.Nat.{ℕ, zero, suc, ◌-◌}
use borrow.Author.Tests.{ltb-true, ltb-false}
use lib.Dec.{eqb, ltb}
use lib.ListN.{length, drop}
use Rattle.text.specs.Read.{LineRead}
use Rattle.text.specs.Read.{Taken, Fault}
use Rattle.text.specs.Line.{Line, Reading, read_line}
use Rattle.ground.proofs.Booleans.{either}
use Rattle.text.proofs.Faults.{Textual, two_or_three, two_or_three_lem, line_textual}
use Rattle.form.specs.Parts.{Part, Form, Row, Rows, line_row, letter_of, raised, next_after}
use Rattle.form.specs.Outcome.{Found, took, lost, outcome, mapped, ahead, chained, wrong}
use Rattle.form.specs.Reading.{kind_at, read_row, no_more, read_rows, read_parts, read_form}
use Rattle.form.proofs.Verdict.{form_long, form_wrong}

-- found, or lost with one of the two
abbrev pub plain : {A : Type 0} → Found A → Bool
plain (took k a) = true
plain (lost number at) = two_or_three number

abbrev pub Plain : {A : Type 0} → Found A → Type 0
Plain q = plain q ≡ true

pub fault : {A : Type 0} (q : Found A) (number at : ℕ) → Plain q → q ≡ lost number at → (number ≡ 2) ⊎ (number ≡ 3)
fault q number at h e = two_or_three_lem number (rw e at h)

ahead_plain : {A : Type 0} (k : ℕ) (a : A) (q : Found (List A)) → Plain q → Plain (ahead k a q)
ahead_plain k a (took j xs) h = h
ahead_plain k a (lost number at) h = h

chained_plain : {A : Type 0} (q : Found A) (next : A → List ℕ → Found (List A)) (t : List ℕ) → Plain q
    → ((a : A) (u : List ℕ) → Plain (next a u))
    → Plain (chained q next t)
chained_plain (took k a) next t h n = ahead_plain k a (next a (drop k t)) (n a (drop k t))
chained_plain (lost number at) next t h n = h

mapped_plain : {A B : Type 0} (f : A → B) (q : Found A) → Plain q → Plain (mapped f q)
mapped_plain f (took k a) h = h
mapped_plain f (lost number at) h = h

outcome_plain : (p : Reading) → Textual p → Plain (outcome p)
outcome_plain p h = go p.ended refl
  where
    go : (r : LineRead) → p.ended ≡ r → Plain (outcome p)
    go (Taken k) e = rw e refl
    go (Fault number at) e = rw e (rw e at h)

row_plain : (up : Bool) (next : ℕ) (l : Line) (t : List ℕ) → Plain (read_row up next l t)
row_plain up next l t =
    let p : Reading = read_line (raised up next l) t in
    mapped_plain (line_row (letter_of l)) (outcome p) (outcome_plain p (line_textual (raised up next l) t))

none_plain : (need : ℕ) → Plain (no_more need)
none_plain need = either (Plain {A = Rows}) (eqb need 0) refl refl

rows_plain : (p : Part) (left need next : ℕ) (t : List ℕ) → Plain (read_rows p left need next t)
unfolding read_rows
rows_plain p zero need next t = none_plain need
rows_plain p (suc left) need next t = go (kind_at p.kinds t) (rows_plain p left (need - 1))
  where
    rest : Row → List ℕ → Found Rows
    rest r = read_rows p left (need - 1) (next_after r)

    go : (o : Option Line) → ((n : ℕ) (u : List ℕ) → Plain (read_rows p left (need - 1) n u))
        → Plain {A = Rows} (elim o [ none ↦ no_more need | some l ↦ chained (read_row p.rising next l t) rest t ])
    go none ih = none_plain need
    go (some l) ih =
        chained_plain (read_row p.rising next l t) rest t (row_plain p.rising next l t)
        (λ (r : Row). ih (next_after r))

pub parts_plain : (ps : List Part) (t : List ℕ) → Plain (read_parts ps t)
unfolding read_parts
parts_plain [] [] = refl
parts_plain [] (b ∷ t) = refl
parts_plain (p ∷ ps) t =
    chained_plain (read_rows p p.most p.least 0 t) (λ (rs : Rows). read_parts ps) t
    (rows_plain p p.most p.least 0 t)
    (λ (rs : Rows). parts_plain ps)

-- of a whole text, which may be too long
pub form_fault : (f : Form) (t : List ℕ) (number line byte : ℕ) → read_form f t ≡ wrong number line byte
    → (number ≡ 2) ⊎ (number ≡ 3)
form_fault f t number line byte e = go (ltb f.room (length t)) refl
  where
    go : (u : Bool) → ltb f.room (length t) ≡ u → (number ≡ 2) ⊎ (number ≡ 3)
    go true d =
        let c : wrong 2 0 0 ≡ wrong number line byte = sym (form_long f t (ltb-true f.room (length t) d)) ∙ e in
        inl cc
    go false d =
        let p = form_wrong f t number line byte (ltb-false f.room (length t) d) e in
        fault (read_parts f.parts t) number p.at (parts_plain f.parts t) p.found
