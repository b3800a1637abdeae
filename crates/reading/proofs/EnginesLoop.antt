-- The loop that reads engine rows: the two columns of the rows read so far stand at the starts of the two lists.
use mathlib.Core.Path.{◌≡◌, refl, ap, ◌∙◌}
use mathlib.Core.List.{List, []}
use Prim.Native.Nat.{ℕ, ◌≤◌, ◌<◌, max}
use native.Mathlib.Omega.{arith}
use lib.ListN.{length}
use lib.Seq.{sets, length-sets}
use Rattle.form.specs.Parts.{Rows}
use Rattle.sheet.specs.Lines.{most_rows}
use Rattle.sheet.specs.EngineText.{engine_part, powers_of, weights_of}
use Rattle.reading.specs.Rows.{Columns}
use Rattle.reading.proofs.RowsLoop.{Upto}
use Rattle.reading.specs.Rows.{NoRows}
use Rattle.reading.proofs.RowsLoop as loop
use Rattle.reading.proofs.Columns.{engines_at}
use Rattle.reading.proofs.Columns.{rows_before}

-- read are read, `rows` rows, and there is more text after them; the next power may be `next`
pub record State (t a₀ b₀ a b : List ℕ) (rows at next : ℕ) : Type 0 where
  pub read : Rows
  pub above : ℕ
  pub upto : Upto engine_part t read rows at above
  pub starts : next ≡ max 1 above
  pub more : 0 < rows → at < length t
  pub powers : a ≡ sets a₀ 0 (powers_of read)
  pub weights : b ≡ sets b₀ 0 (weights_of read)

pub start : (t a b : List ℕ) → State t a b a b 0 0 1
start t a b =
    let more : 0 < 0 → 0 < length t = λ (h : 0 < 0). absurd (omega arith) in
    let upto = loop.start engine_part t in
    record { read = []; above = 0; upto = upto; starts = refl; more = more; powers = refl; weights = refl }

module _ {t a₀ b₀ a b : List ℕ} {rows at next : ℕ} (s : State t a₀ b₀ a b rows at next) where
  pub powers_kept : length a ≡ length a₀
  powers_kept = ap length s.powers ∙ length-sets a₀ 0 (powers_of s.read)

  pub weights_kept : length b ≡ length b₀
  weights_kept = ap length s.weights ∙ length-sets b₀ 0 (weights_of s.read)

  -- there is more text after as many rows as there may be
  pub full : most_rows ≤ rows → Columns (engines_at t) t (NoRows 2 at) a b
  full h =
      let e = rows_before t (loop.full s.upto (omega arith) h) (s.more (omega arith)) in
      record { answer = rw e; powers = rw e; weights = rw e; within = s.upto.at_in }
