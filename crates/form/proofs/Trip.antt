-- The single text, of every form: what is written reads back as itself, and what reads is what would be written.
use mathlib.Core.Path.{◌≡◌, refl, sym, ap, ◌∙◌}
use mathlib.Core.Bool.{true, true≢false, ◌&&◌}
use mathlib.Core.List.{List, [], ◌∷◌, ◌++◌}
use Prim.Native.Nat.{ℕ, ◌+◌, ◌<◌}
use mathlib.Core.Option.{none}
use native.Mathlib.Omega.{arith}
use borrow.Author.Tests.{leb-true, lt-leb, le-ltb}
use lib.Dec.{leb}
use lib.ListN.{length, drop, length-append}
use Rattle.ground.proofs.Booleans.{both_hold}
use Rattle.form.specs.Parts.{Part, Form, Rows}
use Rattle.form.specs.Outcome.{took, right, placed}
use Rattle.form.specs.Reading.{kind_at, read_rows, read_stop, read_parts, read_form}
use Rattle.form.specs.Writing.{part_ok, parts_ok, rows_text, parts_text, form_ok, form_text}
use Rattle.form.proofs.Chain.{lost_not_found, chain_forth, chain_back}
use Rattle.form.proofs.Verdict.{form_right}
use Rattle.form.proofs.Letters.{kinds_made}
use Rattle.form.proofs.Held.{part_held, held_part}
use Rattle.form.proofs.Most.{parts_most, parts_most_lem}
use Rattle.form.proofs.Made.{apart, apart_none, told, parts_made, well_made}
use Rattle.form.proofs.RowsTrip.{rows_forth}
use Rattle.form.proofs.RowsBack.{RowsBack, rows_back}

-- ---- what is written reads back

-- where a part has a choice, it is told from what follows
pub told_apart : (p : Part) (ps : List Part) → p.least < p.most → told p ps ≡ true → apart p.kinds ps ≡ true
unfolding told
told_apart p ps k h = rw (lt-leb p.most p.least k) at h

pub parts_forth : (ps : List Part) (v : List Rows) → parts_made ps ≡ true
    → parts_ok ps v ≡ true
    → read_parts ps (parts_text ps v) ≡ took (length (parts_text ps v)) v
unfolding parts_made parts_ok parts_text read_parts
parts_forth [] [] m h = refl
parts_forth [] (rs ∷ v) m h = absurd (true≢false (sym h))
parts_forth (p ∷ ps) [] m h = absurd (true≢false (sym h))
parts_forth (p ∷ ps) (rs ∷ v) m h =
    let ms = both_hold (kinds_made p.kinds) (told p ps && parts_made ps) m in
    let ns = both_hold (told p ps) (parts_made ps) ms.1 in
    let hs = both_hold (part_ok p rs) (parts_ok ps v) h in
    let a = part_held p rs hs.0 in
    let x : List ℕ = rows_text p.kinds rs in
    let y : List ℕ = parts_text ps v in
    let away : length rs < p.most → kind_at p.kinds y ≡ none =
    λ (k : length rs < p.most).
    apart_none p.kinds ps v ns.1 (told_apart p ps (omega (arith, a.many)) ns.0) hs.1 in
    rw (length-append x y)
    (chain_forth (read_rows p p.most p.least 0 (x ++ y)) (λ (rs : Rows). read_parts ps) x y rs v (length y)
    (rows_forth p rs p.most p.least 0 y ms.0 a.held a.many a.few away)
    (parts_forth ps v ns.1 hs.1))

-- of every well-made form, the text of rows within the limits gives those rows
pub written_reads : (f : Form) (v : List Rows) → well_made f ≡ true
    → form_ok f v ≡ true
    → read_form f (form_text f v) ≡ right v
unfolding well_made read_form
written_reads f v m h =
    let ms = both_hold (parts_made f.parts) (leb (parts_most f.parts) f.room) m in
    let n = leb-true (parts_most f.parts) f.room ms.1 in
    let fits = le-ltb f.room (length (form_text f v)) (omega (arith, parts_most_lem f.parts v h)) in
    rw fits (ap (placed (form_text f v)) (parts_forth f.parts v ms.0 h))

-- ---- what reads is what would be written

pub record Said (ps : List Part) (t : List ℕ) (k : ℕ) (v : List Rows) : Type 0 where
  pub is : t ≡ parts_text ps v
  pub within : parts_ok ps v ≡ true
  pub count : k ≡ length t

stop_back : (t : List ℕ) (k : ℕ) (v : List Rows) → read_stop t ≡ took k v → Said [] t k v
unfolding parts_ok parts_text
stop_back [] k v e =
    let a : k ≡ 0 = cc in
    let b : v ≡ [] = cc in
    rw (a, b) (record { is = refl; within = refl; count = refl })
stop_back (c ∷ t) k v e = absurd (lost_not_found e)

more_back : (p : Part) (ps : List Part) (t : List ℕ) (j i : ℕ) (rs : Rows) (w : List Rows) {k : ℕ} {v : List Rows}
    → k ≡ j + i
    → v ≡ rs ∷ w
    → RowsBack p p.most p.least 0 t j rs
    → Said ps (drop j t) i w
    → Said (p ∷ ps) t k v
unfolding parts_ok parts_text
more_back p ps t j i rs w c d a b =
    let s : t ≡ rows_text p.kinds rs ++ drop j t = a.led.start in
    let x : List ℕ = rows_text p.kinds rs in
    let n : length t ≡ length x + length (drop j t) = ap length s ∙ length-append x (drop j t) in
    rw (c, d) (record {
      is = s ∙ ap (λ (y : List ℕ). x ++ y) b.is;
      within = rw (held_part p rs a.many a.few a.held, b.within);
      count = omega (arith, a.led.count, b.count);
    })

pub parts_back : (ps : List Part) (t : List ℕ) (k : ℕ) (v : List Rows) → read_parts ps t ≡ took k v → Said ps t k v
unfolding read_parts
parts_back [] t k v e = stop_back t k v e
parts_back (p ∷ ps) t k v e =
    let c = chain_back (read_rows p p.most p.least 0 t) (λ (rs : Rows). read_parts ps) t k v e in
    let rows = rows_back p p.most p.least 0 t c.first c.a c.first_found in
    let rest = parts_back ps (drop c.first t) c.rest c.more c.rest_found in
    more_back p ps t c.first c.rest c.a c.more c.both c.all rows rest

-- of every form, what reads is what would be written, and is within the limits
pub reads_written : (f : Form) (t : List ℕ) (v : List Rows) → read_form f t ≡ right v
    → (t ≡ form_text f v) × (form_ok f v ≡ true)
reads_written f t v e =
    let (k, d) = form_right f t v e in
    let p = parts_back f.parts t k v d in
    (p.is, p.within)
