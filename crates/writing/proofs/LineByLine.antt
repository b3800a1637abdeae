-- The lines HULL to SEAT, written one after another.
use mathlib.Core.Path.{◌≡◌, refl, sym, ap, ◌∙◌}
use mathlib.Core.List.{List, [], ◌++◌, append_assoc}
use Prim.Native.Nat.{ℕ, ◌+◌, ◌-◌, ◌≤◌}
use native.Mathlib.Omega.{arith}
use lib.ListN.{length, take, drop, length-append, length-drop}
use lib.Seq.{drop-drop, length-take-le}
use Rattle.text.specs.declared.Limit.{Limit}
use Rattle.text.specs.Line.{line_text}
use Rattle.sheet.specs.declared.TheConstants.{SHEET_TEXT}
use Rattle.sheet.specs.Lines.{lines}
use Rattle.sheet.specs.Places.{text_words}
use Rattle.sheet.specs.Sheet.{limit_rows}
use Rattle.sheet.specs.SheetText.{sheet_text}
use Rattle.sheet.proofs.Table.{rows_long}
use Rattle.sheet.proofs.Writing.{text_on, text_whole, text_line}
use Rattle.writing.specs.Pieces.{line_from, lines_at, Next, Upto}

pub start : (s : List ℕ) {so : List ℕ} → so ≡ [] → length s ≡ text_words → length (sheet_text s) ≤ SHEET_TEXT
    → Upto 0 s so
start s e n h = record { many = n; fits = h; whole = rw e (sym (text_whole s)) }

module _ {tag s so : List ℕ} {from to : ℕ} (q : Next tag from to) (p : Upto from s so) where
  abbrev line : List ℕ
  line = line_text (line_from tag from to) (drop from s)

  abbrev rest : List ℕ
  rest = text_on (lines_at to lines) (drop to s)

  entered : so ++ (line ++ rest) ≡ sheet_text s
  entered =
      let rows : List Limit = drop from limit_rows in
      let full = rows_long {rows = limit_rows} refl in
      let k : length (take (to - from) rows) ≡ to - from =
      length-take-le (to - from) rows (omega (arith, q.end, full, length-drop from limit_rows)) in
      let place : from + (to - from) ≡ to = omega (arith, q.order) in
      let t : text_on (lines_at from lines) (drop from s) ≡ line ++ rest =
      rw (
        q.is,
        text_line (line_from tag from to) (lines_at to lines) (drop from s),
        k,
        drop-drop (to - from) from s,
        place,
      ) in
      ap (λ (x : List ℕ). so ++ x) (sym t) ∙ p.whole

  -- there is room for the line
  pub due : length so + length line ≤ SHEET_TEXT
  due = omega (arith, ap length entered, p.fits, length-append so (line ++ rest), length-append line rest)

  pub step : {so' : List ℕ} → so' ≡ so ++ line → Upto to s so'
  step e = record { many = p.many; fits = p.fits; whole = rw e (append_assoc so line rest ∙ entered) }
