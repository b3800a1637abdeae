-- Engine rows have one text: rows within the limits that are written read back as themselves, and a text that reads as
-- rows is what they are written as. Both follow from the form's. And rows are the same thing as their two columns.
use mathlib.Core.Path.{◌≡◌, refl, sym, ap, ◌∙◌}
use mathlib.Core.Bool.{true, false, true≢false}
use mathlib.Core.Logic.{◌⊎◌}
use mathlib.Core.List.{List, [], ◌∷◌}
use Prim.Native.Nat.{ℕ, ◌+◌, ◌≤◌, max}
use native.Mathlib.Omega.{arith}
use lib.ListN.{length, length-map}
use Rattle.ground.proofs.Booleans.{both_hold}
use Rattle.form.specs.Parts.{Row, Rows, next_after}
use Rattle.form.specs.Outcome.{right, wrong}
use Rattle.form.specs.Reading.{read_form}
use Rattle.form.specs.Writing.{row_ok, rows_ok, part_ok, parts_ok, form_ok, form_text}
use Rattle.form.proofs.Verdict.{saying_right, saying_wrong, form_most}
use Rattle.form.proofs.Held.{part_held, PartHeld}
use Rattle.form.proofs.Pairs.{Pair, pair_row, pair}
use Rattle.form.proofs.Trip as T
use Rattle.form.proofs.Faults.{form_fault}
use Rattle.sheet.specs.Lines.{engine_power_high, engine_weight_high, engine_line, most_rows, most_bytes}
use Rattle.sheet.specs.EngineText.{engine_part, engine_form, only_rows, powers_of, weights_of, engine_rows}
use Rattle.sheet.specs.EngineText.{read_engines, engines_ok, engines_text}
use Rattle.sheet.proofs.WellMade.{engines_made}

-- ---- rows and columns

pub powers_length : (rs : Rows) → length (powers_of rs) ≡ length rs
powers_length rs = length-map rs _

pub weights_length : (rs : Rows) → length (weights_of rs) ≡ length rs
weights_length rs = length-map rs _

pub powers_columns : (ps ws : List ℕ) → length ps ≡ length ws → powers_of (engine_rows ps ws) ≡ ps
unfolding engine_rows
powers_columns [] ws e = refl
powers_columns (p ∷ ps) [] e = absurd (omega arith)
powers_columns (p ∷ ps) (w ∷ ws) e = ap (λ (l : List ℕ). p ∷ l) (powers_columns ps ws (omega arith))

pub weights_columns : (ps ws : List ℕ) → length ps ≡ length ws → weights_of (engine_rows ps ws) ≡ ws
unfolding engine_rows
weights_columns [] [] e = refl
weights_columns [] (w ∷ ws) e = absurd (omega arith)
weights_columns (p ∷ ps) [] e = absurd (omega arith)
weights_columns (p ∷ ps) (w ∷ ws) e = ap (λ (l : List ℕ). w ∷ l) (weights_columns ps ws (omega arith))

-- an ENG row has a power from next on and a weight
abbrev pub Engine : ℕ → Row → Type 0
Engine next r = Pair engine_line.tag 1 engine_power_high 0 engine_weight_high next r

pub engine : (next n : ℕ) (r : Row) → max 1 next ≡ n → row_ok engine_part next r ≡ true → Engine n r
engine next n r m h = pair engine_line.tag 1 engine_power_high 0 engine_weight_high 1 most_rows next n r m h

rows_columns : (rs : Rows) (next : ℕ) → rows_ok engine_part next rs ≡ true → engine_rows (powers_of rs) (weights_of rs) ≡ rs
unfolding rows_ok engine_rows
rows_columns [] next h = refl
rows_columns (r ∷ rs) next h =
    let hs = both_hold (row_ok engine_part next r) (rows_ok engine_part (next_after r) rs) h in
    let f = engine next (max 1 next) r refl hs.0 in
    go f.n f.w f.is (rows_columns rs (next_after r) hs.1)
  where
    go : (p w : ℕ) → r ≡ pair_row engine_line.tag 1 engine_power_high 0 engine_weight_high p w
        → engine_rows (powers_of rs) (weights_of rs) ≡ rs
        → engine_rows (powers_of (r ∷ rs)) (weights_of (r ∷ rs)) ≡ r ∷ rs
    go p w e ih = rw e (rw ih)

-- ---- the single text

pub engines_held : (rs : Rows) → engines_ok rs ≡ true → PartHeld engine_part rs
unfolding engine_form parts_ok
engines_held rs h = part_held engine_part rs (both_hold (part_ok engine_part rs) true h).0

-- for rows within the limits, reading what their columns are written as gives those rows
pub written_reads : (ps ws : List ℕ) → engines_ok (engine_rows ps ws) ≡ true
    → read_engines (engines_text ps ws) ≡ right (engine_rows ps ws)
unfolding read_engines engines_text
written_reads ps ws h = rw (T.written_reads engine_form (engine_rows ps ws ∷ []) engines_made h)

-- what a text that reads as rows is
pub record Written (t : List ℕ) (rs : Rows) : Type 0 where
  pub text : t ≡ engines_text (powers_of rs) (weights_of rs)
  pub within : engines_ok rs ≡ true

-- for every text that reads as rows, writing those rows gives the same bytes
pub reads_written : (t : List ℕ) (rs : Rows) → read_engines t ≡ right rs → Written t rs
unfolding read_engines engines_text parts_ok engine_form
reads_written t rs e =
    let (v, f, is) = saying_right only_rows (read_form engine_form t) rs e in
    let (text, within) = T.reads_written engine_form t v f in
    rw is (only v text within)
  where
    said : (qs : Rows) → engines_ok qs ≡ true → qs ≡ engine_rows (powers_of qs) (weights_of qs)
    said qs h = sym (rows_columns qs 0 (engines_held qs h).held)

    only : (v : List Rows) → t ≡ form_text engine_form v → form_ok engine_form v ≡ true → Written t (only_rows v)
    only [] d b = absurd (true≢false (sym b))
    only (qs ∷ q ∷ v) d b = absurd (true≢false (sym (both_hold (part_ok engine_part qs) false b).1))
    only (qs ∷ []) d b =
        record { text = d ∙ ap (λ (z : Rows). form_text engine_form (z ∷ [])) (said qs b); within = b }

-- a text of engine rows too is refused with 2 or 3 alone
pub engines_fault : (t : List ℕ) (number line byte : ℕ) → read_engines t ≡ wrong number line byte
    → (number ≡ 2) ⊎ (number ≡ 3)
unfolding read_engines
engines_fault t number line byte e =
    form_fault engine_form t number line byte (saying_wrong only_rows (read_form engine_form t) number line byte e)

pub engines_most : (t : List ℕ) (number line byte : ℕ) → read_engines t ≡ wrong number line byte
    → (line ≤ most_bytes + 1) × (byte ≤ most_bytes + 1)
unfolding read_engines engine_form
engines_most t number line byte e =
    form_most engine_form t number line byte (saying_wrong only_rows (read_form engine_form t) number line byte e)
