-- Engine rows that were read from a text are right: plate C never refuses them with 10.
use mathlib.Core.Path.{◌≡◌, refl, sym, ◌∙◌}
use mathlib.Core.Bool.{true}
use mathlib.Core.List.{List, [], ◌∷◌}
use Prim.Native.Nat.{ℕ, max}
use native.Mathlib.Numerals.{add-one}
use native.Mathlib.Omega.{arith}
use borrow.Author.Tests.{le-leb}
use Rattle.ground.proofs.Booleans.{both_hold}
use Rattle.form.specs.Parts.{Rows, next_after}
use Rattle.form.specs.Outcome.{right}
use Rattle.form.specs.Writing.{row_ok, rows_ok}
use Rattle.sheet.specs.Lines.{engine_power_high, engine_weight_high}
use Rattle.sheet.specs.EngineText.{engine_part, powers_of, weights_of, read_engines}
use Rattle.sheet.proofs.EngineText.{Engine, engine, powers_length, weights_length, engines_held, reads_written}
use Rattle.capacity.specs.PlateC.{rising, rows_right}
use Rattle.capacity.proofs.Engines.{rows_judged}

-- what the limits of a row's line say of rows, `rising` says of the two columns
pub rows_rise : (rs : Rows) (next n : ℕ) → max 1 next ≡ n → rows_ok engine_part next rs ≡ true
    → rising n (powers_of rs) (weights_of rs) ≡ true
unfolding rows_ok rising
rows_rise [] next n m h = refl
rows_rise (r ∷ rs) next n m h =
    let hs = both_hold (row_ok engine_part next r) (rows_ok engine_part (next_after r) rs) h in
    go (engine next n r m hs.0) (rows_rise rs (next_after r) (next_after r) (omega arith) hs.1)
  where
    go : Engine n r → rising (next_after r) (powers_of rs) (weights_of rs) ≡ true
        → rising n (powers_of (r ∷ rs)) (weights_of (r ∷ rs)) ≡ true
    go f ih =
        let ih' = rw f.is at ih in
        let low = le-leb n f.n f.n_low in
        let high = le-leb f.n engine_power_high f.n_high in
        rw (f.is, low, high, le-leb f.w engine_weight_high f.w_high, add-one f.n) ih'

pub read_right : (t : List ℕ) (rs : Rows) → read_engines t ≡ right rs
    → rows_right (powers_of rs) (weights_of rs) ≡ true
read_right t rs e =
    let p = engines_held rs (reads_written t rs e).within in
    let a = powers_length rs in
    let even = a ∙ sym (weights_length rs) in
    sym (rows_judged (powers_of rs) (weights_of rs) even (omega (arith, p.many)) (omega (arith, p.few)))
    ∙ rows_rise rs 0 1 refl p.held
