-- The rows of one part, where reading stops: the text goes wrong there or a limit is broken there, and the rows before
-- are within their limits.
use mathlib.Core.Path.{◌≡◌, refl, sym, ap, ◌∙◌}
use mathlib.Core.Bool.{Bool, true, false}
use mathlib.Core.List.{List, [], ◌∷◌, ◌++◌, append_assoc}
use mathlib.Core.Option.{Option, none, some}
use Prim.Native.Nat.{ℕ, zero, suc, ◌+◌, ◌-◌, ◌<◌}
use native.Mathlib.Omega.{arith}
use borrow.Author.Tests.{eqb-false}
use lib.Dec.{eqb}
use lib.ListN.{length, drop, length-append}
use Rattle.answers.specs.Refusals.{broken_line}
use Rattle.text.specs.Read.{Fault}
use Rattle.text.specs.Line.{Line, read_line}
use Rattle.form.specs.Parts.{Part, Row, Rows, letter_of, kind_of, raised, next_after}
use Rattle.form.specs.Outcome.{Found, lost}
use Rattle.form.specs.Reading.{kind_at, read_row, no_more, read_rows}
use Rattle.form.specs.Writing.{rows_ok, row_text, rows_text}
use Rattle.form.proofs.Chain.{lost_not_found, Broken, at_first, at_rest, chain_lost}
use Rattle.form.proofs.RowsTrip.{rows_none, rows_more}
use Rattle.form.proofs.RowsBack.{RowBack, row_back, kind_at_lem}
use Rattle.fault.specs.Rules.{Rule, PartThen}
use Rattle.fault.specs.Faulty.{Faulty}
use Rattle.fault.specs.Reached.{LineStops, in_tag, RowsStop, Refusal}
use Rattle.fault.proofs.Line.{line_refused}
use Rattle.fault.proofs.Choice.{agree_faulty}
use Rattle.fault.proofs.OneOf.{distinct, first_kind, agree_one, tagged}
use Rattle.fault.proofs.Raised.{unraised}
use Rattle.fault.proofs.Count.{still, Fits, fits_next, some_part, missing, agree_more}
use Rattle.fault.proofs.Rows.{row_taken, row_lost, row_goes}

-- ---- where it stops

-- at the next line
stops_here : (number : ℕ) (p : Part) (left next : ℕ) → 0 < left → (l : Line) (t : List ℕ) (k : ℕ)
    → kind_of p.kinds (letter_of l) ≡ some l
    → LineStops number (raised p.rising next l) t k
    → RowsStop number p left next t k
unfolding rows_ok rows_text
stops_here number p left next h l t k e s =
    record {
      before = [];
      rest = t;
      into = k;
      letter = letter_of l;
      line = l;
      kind = e;
      few = omega arith;
      held = refl;
      text = refl;
      place = omega arith;
      stops = s;
    }

-- after a row that was read
stops_later : {number : ℕ} {p : Part} {left next : ℕ} {t : List ℕ} {j i : ℕ} {r : Row} → RowBack p next t j r
    → RowsStop number p left (next_after r) (drop j t) i
    → RowsStop number p (suc left) next t (j + i)
unfolding rows_ok rows_text
stops_later {p = p} {t = t} {r = r} a s =
    let x : List ℕ = row_text p.kinds r in
    let y : List ℕ = rows_text p.kinds s.before in
    record {
      before = r ∷ s.before;
      rest = s.rest;
      into = s.into;
      letter = s.letter;
      line = s.line;
      kind = s.kind;
      few = omega (arith, s.few);
      held = rw (a.held, s.held);
      text = a.led.start ∙ ap (λ (z : List ℕ). x ++ z) s.text ∙ sym (append_assoc x y s.rest);
      place = omega (arith, a.led.count, s.place, length-append x y);
      stops = s.stops;
    }

module _ (p : Part) (S : Rule) where
  -- a line is missing
  stop_refused : (left need next : ℕ) (t : List ℕ) (number k : ℕ) → Fits p left need S
      → (0 < left → kind_at p.kinds t ≡ none)
      → no_more need ≡ lost number k
      → Refusal (PartThen (still p left need) S) (λ n. RowsStop n p left next) t number k
  stop_refused left need next t number k f n e = go (eqb need 0) refl
    where
      first : (kinds : List Line) → p.kinds ≡ kinds → 0 < left → 0 < length kinds → RowsStop broken_line p left next t 0
      first [] q g h = absurd (omega arith)
      first (l ∷ ls) q g h =
          let d = distinct l ls (rw q at f.made) in
          stops_here broken_line p left next g l t 0 (rw q (first_kind l ls)) (in_tag refl (tagged l d.made) refl)

      go : (u : Bool) → eqb need 0 ≡ u
          → Refusal (PartThen (still p left need) S) (λ n. RowsStop n p left next) t number k
      go true d = absurd (lost_not_found (sym (rw d at e)))
      go false d =
          let c : ◌≡◌ {A = Found Rows} (lost broken_line 0) (lost number k) = rw d at e in
          let a : number ≡ broken_line = cc in
          let b : k ≡ 0 = cc in
          let h : 0 < need = omega (arith, eqb-false need 0 d) in
          rw (a, b) (record {
            form = λ z. missing p S t left need h f (n (omega (arith, f.room)));
            limits = first p.kinds refl (omega (arith, f.room, h)) (f.kind h);
          })

  row_refused : (left need next : ℕ) (l : Line) (t : List ℕ) (number k : ℕ) → Fits p (suc left) need S
      → kind_at p.kinds t ≡ some l
      → (read_line (raised p.rising next l) t).ended ≡ Fault number k
      → Refusal (PartThen (still p (suc left) need) S) (λ n. RowsStop n p (suc left) next) t number k
  row_refused left need next l t number k f e d =
      let T : Rule = PartThen (still p left (need - 1)) S in
      let r = line_refused (raised p.rising next l) t number k (some_part (fits_next f)) d in
      record {
        form = λ q.
            agree_faulty (agree_more p S t left need l f e)
            (agree_faulty (agree_one T p.kinds l t f.made e)
            (unraised (λ R. Faulty R t k) T p.rising next l (r.form q)));
        limits = stops_here number p (suc left) next (omega arith) l t k (kind_at_lem p.kinds t l e) r.limits;
      }

  pub rows_refused : (left need next : ℕ) (t : List ℕ) (number k : ℕ) → Fits p left need S
      → read_rows p left need next t ≡ lost number k
      → Refusal (PartThen (still p left need) S) (λ n. RowsStop n p left next) t number k
  unfolding read_rows
  rows_refused zero need next t number k f e = stop_refused zero need next t number k f (λ h. absurd (omega arith)) e
  rows_refused (suc left) need next t number k f e = go (kind_at p.kinds t) refl (rows_refused left (need - 1))
    where
      rest : Row → List ℕ → Found Rows
      rest r = read_rows p left (need - 1) (next_after r)

      go : (o : Option Line) → kind_at p.kinds t ≡ o
          → ((n : ℕ) (u : List ℕ) (m i : ℕ) → Fits p left (need - 1) S → read_rows p left (need - 1) n u ≡ lost m i
          → Refusal (PartThen (still p left (need - 1)) S) (λ a. RowsStop a p left n) u m i)
          → Refusal (PartThen (still p (suc left) need) S) (λ n. RowsStop n p (suc left) next) t number k
      go none d ih =
          stop_refused (suc left) need next t number k f (λ h. d) (sym (rows_none p (suc left) need next t d) ∙ e)
      go (some l) d ih =
          more (chain_lost (read_row p.rising next l t) rest t number k (sym (rows_more p left need next t l d) ∙ e))
        where
          more : Broken (read_row p.rising next l t) rest t number k
              → Refusal (PartThen (still p (suc left) need) S) (λ n. RowsStop n p (suc left) next) t number k
          more (at_first a) = row_refused left need next l t number k f d (row_lost p.rising next l t number k a)
          more (at_rest j r i a b c) =
              let g = row_goes p S left need next l t j f d (row_taken p.rising next l t j r a) in
              let q = ih (next_after r) (drop j t) number i (fits_next f) b in
              let back = row_back p next l t j r (kind_at_lem p.kinds t l d) a in
              rw c (record { form = λ z. g.on i (q.form z); limits = stops_later back q.limits })
