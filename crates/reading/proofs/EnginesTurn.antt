-- A turn of the loop that reads engine rows.
use mathlib.Core.Path.{◌≡◌, refl, sym, ap, ◌∙◌}
use mathlib.Core.Bool.{Bool, true, false}
use mathlib.Core.List.{List, [], ◌∷◌, ◌++◌}
use mathlib.Core.Option.{some}
use Prim.Native.Nat.{ℕ, suc, ◌+◌, ◌-◌, ◌≤◌, ◌<◌, max}
use native.Mathlib.Nat.{add-zero}
use native.Mathlib.Omega.{arith}
use lib.ListN.{length, take, drop, set, get_or}
use lib.Seq.{sets}
use Rattle.text.specs.Field.{begins}
use Rattle.text.specs.Line.{Reading}
use Rattle.ground.proofs.Stores.{rest_part}
use Rattle.form.specs.Parts.{Row, Rows, line_row, letter_of}
use Rattle.form.specs.Outcome.{lost, outcome}
use Rattle.form.specs.Reading.{kind_at}
use Rattle.form.proofs.Letters.{kind_here}
use Rattle.form.proofs.OneLine.{line_else}
use Rattle.sheet.specs.Lines.{engine_line, engine_power_high, most_rows}
use Rattle.sheet.specs.EngineText.{engine_part, powers_of, weights_of}
use Rattle.sheet.proofs.EngineText.{powers_length, weights_length}
use Rattle.reading.specs.Rows.{RowRead}
use Rattle.reading.specs.Rows.{Numbers, NoRow}
use Rattle.reading.specs.Rows.{row_as, row_reach, RowOf, Columns}
use Rattle.reading.proofs.Row.{Rowed, rowed, first_in}
use Rattle.reading.proofs.RowsLoop.{Upto, part_in}
use Rattle.reading.specs.Rows.{Rows as Many, NoRows}
use Rattle.reading.proofs.RowsLoop as loop
use Rattle.reading.proofs.Columns.{engines_at, engine_from, engine_letter, engines_away}
use Rattle.reading.proofs.Columns.{rows_last, rows_lost, column_snoc, column_first}
use Rattle.reading.proofs.EnginesLoop.{State, powers_kept, weights_kept}

-- a turn of the loop, after the row was read as r
pub record Turn (t a₀ b₀ a b : List ℕ) (rows at next : ℕ) (r : RowRead) : Type 0 where
  pub state : State t a₀ b₀ a b rows at next
  pub few : rows < most_rows
  pub row : RowOf (engine_from next) (take (length t - at) (drop at t)) r

module _ {t a₀ b₀ a b : List ℕ} {rows at next : ℕ} {r : RowRead} (p : Turn t a₀ b₀ a b rows at next r) where
  abbrev s : State t a₀ b₀ a b rows at next
  s = p.state

  row : RowOf (engine_from (max 1 s.above)) (take (length t - at) (drop at t)) r
  row = rw s.starts at p.row

  -- a text that does not go on with a row is refused at its first byte
  away : begins engine_letter (drop at t) ≡ false → r ≡ NoRow 2 0
  away e =
      rw (rest_part t at) at p.row.found
      ∙ ap (λ (x : Reading). row_as (outcome x)) (line_else (engine_from next) (drop at t) (omega arith) e)

  pub place_in : at + row_reach r ≤ length t
  place_in = part_in t s.upto.at_in p.row.within

  pub fault : {number place : ℕ} → r ≡ NoRow number place → Columns (engines_at t) t (NoRows number (at + place)) a b
  fault {number} {place} v =
      let e = go (begins engine_letter (drop at t)) refl in
      record { answer = rw e; powers = rw e; weights = rw e; within = omega (arith, place_in, ap row_reach v) }
    where
      go : (u : Bool) → begins engine_letter (drop at t) ≡ u → engines_at t ≡ lost number (at + place)
      go true d =
          rows_lost t (loop.fault s.upto p.few engine_line (kind_here engine_line (drop at t) d) row v)
      go false d =
          let c : NoRow 2 0 ≡ NoRow number place = sym (away d) ∙ v in
          let x : number ≡ 2 = cc in
          let y : place ≡ 0 = cc in
          rw (x, y, add-zero at) (engines_away s.upto s.more d)

  module _ {n w c len : ℕ} (v : r ≡ Numbers n w c len) where
    found : Rowed (engine_from (max 1 s.above)) (take (length t - at) (drop at t)) n w c len
    found = rowed _ _ row v

    len_in : at + len ≤ length t
    len_in = omega (arith, place_in, ap row_reach v)

    -- what the stores and the sums of the turn need
    pub bounds : (n ≤ engine_power_high) × (at + len ≤ length t) × (length a ≡ length a₀) × (length b ≡ length b₀)
    bounds = (
      omega (arith, found.first, first_in (max 1 s.above) engine_power_high _ found.ns found.held),
      len_in,
      powers_kept s,
      weights_kept s,
    )

    here : kind_at engine_part.kinds (drop at t) ≡ some engine_line
    here = go (begins engine_letter (drop at t)) refl
      where
        go : (u : Bool) → begins engine_letter (drop at t) ≡ u
            → kind_at engine_part.kinds (drop at t) ≡ some engine_line
        go true d = kind_here engine_line (drop at t) d
        go false d =
            let e : NoRow 2 0 ≡ Numbers n w c len = sym (away d) ∙ v in
            let z : ◌≡◌ {A = ℕ} 0 1 = cc in
            absurd (omega arith)

    abbrev engine : Row
    engine = line_row (letter_of engine_line) found.ns

    onto : Upto engine_part t (s.read ++ (engine ∷ [])) (rows + 1) (at + len) (suc n)
    onto = loop.step s.upto p.few engine_line here len_in found

    powers₁ : set a rows n ≡ sets a₀ 0 (powers_of (s.read ++ (engine ∷ [])))
    powers₁ =
        ap (set a rows) found.first
        ∙ column_snoc (λ (q : Row). get_or q.numbers 0 0) a₀ a s.read engine s.powers s.upto.many

    weights₁ : set b rows w ≡ sets b₀ 0 (weights_of (s.read ++ (engine ∷ [])))
    weights₁ =
        ap (set b rows) found.second
        ∙ column_snoc (λ (q : Row). get_or q.numbers 1 0) b₀ b s.read engine s.weights s.upto.many

    pub last : length a₀ ≡ most_rows → length b₀ ≡ most_rows → length t ≤ at + len
        → Columns (engines_at t) t (Many (rows + 1)) (set a rows n) (set b rows w)
    last k l m =
        let rs : Rows = s.read ++ (engine ∷ []) in
        let e = rows_last t (loop.none_more onto (omega arith) m) m in
        let c = column_first a₀ (powers_of rs) (omega (arith, powers_length rs, onto.many, onto.few)) in
        let d = column_first b₀ (weights_of rs) (omega (arith, weights_length rs, onto.many, onto.few)) in
        let many = onto.many in
        record { answer = rw (e, many); powers = rw (powers₁, e) c; weights = rw (weights₁, e) d; within = omega arith }

    pub step : at + len < length t → State t a₀ b₀ (set a rows n) (set b rows w) (rows + 1) (at + len) (n + 1)
    step l =
        record {
          read = s.read ++ (engine ∷ []);
          above = suc n;
          upto = onto;
          starts = omega arith;
          more = λ (k : 0 < rows + 1). l;
          powers = powers₁;
          weights = weights₁;
        }
