-- The parts of a text, one after the other: a text that is accepted is by the rules; one that is refused goes wrong
-- there, or breaks a limit there, and what ended before is within its limits.
use mathlib.Core.Path.{◌≡◌, refl, sym, ap}
use mathlib.Core.Bool.{true}
use mathlib.Core.Logic.{inl, inr}
use mathlib.Core.List.{List, [], ◌∷◌}
use Prim.Native.Nat.{ℕ, ◌+◌}
use native.Mathlib.Omega.{arith}
use lib.ListN.{length, drop}
use Rattle.answers.specs.Refusals.{broken_line}
use Rattle.form.specs.Parts.{Part, Rows}
use Rattle.form.specs.Outcome.{took, lost}
use Rattle.form.specs.Reading.{read_rows, read_stop, read_parts}
use Rattle.form.proofs.Chain.{lost_not_found, chain_back, Broken, at_first, at_rest, chain_lost}
use Rattle.form.proofs.Made.{parts_made}
use Rattle.form.proofs.RowsBack.{RowsBack, rows_back}
use Rattle.fault.specs.Rules.{Just, PartsRule}
use Rattle.fault.specs.Faulty.{Faulty}
use Rattle.fault.specs.Reached.{Spot, RowsPassed, PartsStop, Refusal}
use Rattle.fault.proofs.Sayable.{sayable}
use Rattle.fault.proofs.Made.{able}
use Rattle.fault.proofs.Rows.{rows_goes}
use Rattle.fault.proofs.RowsRefused.{rows_refused}

pub parts_taken : (ps : List Part) (t : List ℕ) (k : ℕ) (v : List Rows) → parts_made ps ≡ true
    → sayable ps ≡ true
    → read_parts ps t ≡ took k v
    → PartsRule ps t
unfolding read_parts
parts_taken [] [] k v m s e = refl
parts_taken [] (b ∷ t) k v m s e = absurd (lost_not_found e)
parts_taken (p ∷ ps) t k v m s e =
    let a = able p ps m s in
    let c = chain_back (read_rows p p.most p.least 0 t) (λ (rs : Rows). read_parts ps) t k v e in
    let g = rows_goes p (PartsRule ps) p.most p.least 0 t c.first c.a a.fits c.first_found in
    g.by (parts_taken ps (drop c.first t) c.rest c.more a.made a.said c.rest_found)

-- after all parts nothing may stand
more_faulty : (b : ℕ) (t : List ℕ) → Faulty (Just []) (b ∷ t) 0
more_faulty b t =
    record {
      inside = omega arith;
      wrong = λ e. omega (arith, ap length e);
      sound = record { rest = []; whole = refl };
      stuck = λ h p. omega (arith, ap length p.whole);
    }

stop_refused : (t : List ℕ) (number k : ℕ) → read_stop t ≡ lost number k
    → Refusal (Just []) (λ n. PartsStop n []) t number k
stop_refused [] number k e = absurd (lost_not_found (sym e))
stop_refused (b ∷ t) number k e =
    let a : number ≡ broken_line = cc in
    let c : k ≡ 0 = cc in
    rw (a, c) (record { form = λ z. more_faulty b t; limits = (refl, refl) })

-- the rows of p were read, and then it stops
stops_past : (O : Spot) {p : Part} {t : List ℕ} {j : ℕ} {rs : Rows} (i : ℕ)
    → RowsBack p p.most p.least 0 t j rs
    → O (drop j t) i
    → RowsPassed p O t (j + i)
stops_past O {t = t} {j = j} {rs = rs} i b s =
    record {
      before = rs;
      rest = drop j t;
      into = i;
      many = omega (arith, b.many);
      few = omega (arith, b.few);
      held = b.held;
      text = b.led.start;
      place = omega (arith, b.led.count);
      there = s;
    }

pub parts_stop : (ps : List Part) (t : List ℕ) (number k : ℕ) → parts_made ps ≡ true
    → sayable ps ≡ true
    → read_parts ps t ≡ lost number k
    → Refusal (PartsRule ps) (λ n. PartsStop n ps) t number k
unfolding read_parts
parts_stop [] t number k m s e = stop_refused t number k e
parts_stop (p ∷ ps) t number k m s e =
    let a = able p ps m s in
    go (chain_lost (read_rows p p.most p.least 0 t) (λ (rs : Rows). read_parts ps) t number k e)
    (λ u i. parts_stop ps u number i a.made a.said)
  where
    go : Broken (read_rows p p.most p.least 0 t) (λ (rs : Rows). read_parts ps) t number k
        → ((u : List ℕ) (i : ℕ) → read_parts ps u ≡ lost number i
        → Refusal (PartsRule ps) (λ n. PartsStop n ps) u number i)
        → Refusal (PartsRule (p ∷ ps)) (λ n. PartsStop n (p ∷ ps)) t number k
    go (at_first d) ih =
        let r = rows_refused p (PartsRule ps) p.most p.least 0 t number k (able p ps m s).fits d in
        record { form = r.form; limits = inl r.limits }
    go (at_rest j rs i d f c) ih =
        let g = rows_goes p (PartsRule ps) p.most p.least 0 t j rs (able p ps m s).fits d in
        let b = rows_back p p.most p.least 0 t j rs d in
        let r = ih (drop j t) i f in
        rw c
        (record { form = λ z. g.on i (r.form z); limits = inr (stops_past (PartsStop number ps) i b r.limits) })
