-- What a whole text of engine rows says.
use mathlib.Core.Path.{◌≡◌, refl, sym, ap, ◌∙◌}
use mathlib.Core.List.{List}
use Prim.Native.Nat.{ℕ, ◌≤◌, ◌<◌}
use native.Mathlib.Omega.{arith}
use lib.ListN.{length, take, drop, get_or, length-append, length-drop, length-map}
use lib.Seq.{take_at}
use Rattle.ground.specs.Lists.{put_first}
use Rattle.form.specs.Parts.{Row}
use Rattle.text.specs.Read.{Whole, Wrong}
use Rattle.text.specs.Place.{line_at, byte_at}
use Rattle.form.specs.Outcome.{Found, took, lost, Verdict, right, placed}
use Rattle.form.proofs.Verdict.{form_long, form_said}
use Rattle.sheet.specs.Lines.{most_bytes}
use Rattle.sheet.specs.EngineText.{engine_form, only_rows, read_engines, powers_of, weights_of}
use Rattle.reading.specs.Rows.{Rows, NoRows}
use Rattle.reading.specs.Rows.{rows_ended, Columns, HeardRows}
use Rattle.reading.proofs.Heard.{told_right}
use Rattle.reading.proofs.Columns.{engines_at}

-- ---- a whole text

pub heard_long : (t a b : List ℕ) → most_bytes < length t → HeardRows (read_engines t) (Wrong 2 0 0) a b
unfolding read_engines engine_form
heard_long t a b h = let e = form_long engine_form t h in record { answer = rw e; powers = rw e; weights = rw e }

-- what a text of rows says, by what was found of it
engines_said : (t : List ℕ) → length t ≤ most_bytes → read_engines t ≡ placed t (engines_at t)
unfolding read_engines engine_form
engines_said t h = form_said engine_form t only_rows h

rows_refused : (f : Found (List Row)) {number at : ℕ} → NoRows number at ≡ rows_ended f → f ≡ lost number at
rows_refused (took k rows) e = let z : ◌≡◌ {A = ℕ} 0 1 = cc in absurd (omega arith)
rows_refused (lost m i) e = cc

rows_taken : (f : Found (List Row)) {n : ℕ} → Rows n ≡ rows_ended f
    → (k : ℕ) × (rows : List Row) × (f ≡ took k rows) × (n ≡ length rows)
rows_taken (took k rows) e = (k, rows, refl, cc)
rows_taken (lost m i) e = let z : ◌≡◌ {A = ℕ} 0 1 = cc in absurd (omega arith)

module _ (t : List ℕ) (h : length t ≤ most_bytes) {a b : List ℕ} where
  pub heard_wrong : {number at : ℕ} → Columns (engines_at t) t (NoRows number at) a b
      → HeardRows (read_engines t) (Wrong number (line_at t at) (byte_at t at)) a b
  heard_wrong p =
      let e = engines_said t h ∙ ap (placed t) (rows_refused (engines_at t) p.answer) in
      record { answer = rw e; powers = rw e; weights = rw e }

  pub heard_whole : {n : ℕ} → Columns (engines_at t) t (Rows n) a b → HeardRows (read_engines t) (Whole n) a b
  heard_whole p =
      let (k, rows, is, many) = rows_taken (engines_at t) p.answer in
      let e : read_engines t ≡ right rows = engines_said t h ∙ ap (placed t) is in
      record {
        answer = rw e (ap Whole many);
        powers = rw e (rw is at p.powers);
        weights = rw e (rw is at p.weights);
      }

-- ---- by what the text says

-- n rows were said, whose columns the first n numbers of c and d are
pub record Held (q : Verdict (List Row)) (n : ℕ) (c d : List ℕ) : Type 0 where
  pub rows : List Row
  pub is : q ≡ right rows
  pub many : n ≡ length rows
  pub powers : take n c ≡ powers_of rows
  pub weights : take n d ≡ weights_of rows
  pub powers_in : n ≤ length c
  pub weights_in : n ≤ length d

starting : (c xs : List ℕ) {n : ℕ} → c ≡ put_first xs c → length xs ≡ n → (take n c ≡ xs) × (n ≤ length c)
starting c xs {n} e m = (
  ap (take n) e ∙ take_at xs (drop (length xs) c) n m,
  omega (arith, ap length e, length-append xs (drop (length xs) c), length-drop (length xs) c),
)

pub rows_held : (q : Verdict (List Row)) {n : ℕ} {c d : List ℕ} → HeardRows q (Whole n) c d → Held q n c d
rows_held q {n} {c} {d} p =
    let (rows, is, many) = told_right length q p.answer in
    let u : c ≡ put_first (powers_of rows) c = rw is at p.powers in
    let v : d ≡ put_first (weights_of rows) d = rw is at p.weights in
    let a = starting c (powers_of rows) u (length-map rows (λ (r : Row). get_or r.numbers 0 0) ∙ sym many) in
    let b = starting d (weights_of rows) v (length-map rows (λ (r : Row). get_or r.numbers 1 0) ∙ sym many) in
    record {
      rows = rows;
      is = is;
      many = many;
      powers = a.0;
      weights = b.0;
      powers_in = a.1;
      weights_in = b.1;
    }
