-- The greatest length of a text of a form.
use mathlib.Core.Path.{◌≡◌, refl, sym}
use mathlib.Core.Bool.{Bool, true, false, true≢false}
use mathlib.Core.List.{List, [], ◌∷◌}
use mathlib.Core.Option.{Option, none, some, none-ne-some, some-injective}
use Prim.Native.Nat.{ℕ, zero, suc, ◌+◌, ◌*◌, ◌≤◌, max}
use native.Mathlib.Nat.{suc-mul}
use native.Mathlib.Omega.{arith}
use lib.Dec.{eqb}
use lib.ListN.{length, length-append}
use Rattle.text.specs.declared.Limit.{Limit}
use Rattle.text.specs.Line.{Line}
use Rattle.ground.proofs.Booleans.{both_hold}
use Rattle.text.proofs.Most.{numbers_most, line_most, line_most_lem}
use Rattle.form.specs.Parts.{Part, Row, Rows, letter_of, kind_of, risen, raised, next_after}
use Rattle.form.specs.Writing.{row_ok, rows_ok, part_ok, parts_ok, row_text, rows_text, parts_text}
use Rattle.form.proofs.Letters.{raised_text}
use Rattle.form.proofs.Held.{part_held}

risen_most : (up : Bool) (next : ℕ) (ls : List Limit) → numbers_most (risen up next ls) ≡ numbers_most ls
unfolding numbers_most
risen_most false next ls = refl
risen_most true next [] = refl
risen_most true next (l ∷ ls) = refl

unfoldable pub kinds_most : List Line → ℕ
kinds_most [] = 0
kinds_most (l ∷ ls) = max (line_most l) (kinds_most ls)

unfoldable pub parts_most : List Part → ℕ
parts_most [] = 0
parts_most (p ∷ ps) = p.most * kinds_most p.kinds + parts_most ps

kind_most : (ls : List Line) (b : ℕ) (l : Line) → kind_of ls b ≡ some l → line_most l ≤ kinds_most ls
unfolding kind_of kinds_most
kind_most [] b l e = absurd (none-ne-some l e)
kind_most (m ∷ ls) b l e = go (eqb b (letter_of m)) refl (kind_most ls b l)
  where
    go : (u : Bool) → eqb b (letter_of m) ≡ u → (kind_of ls b ≡ some l → line_most l ≤ kinds_most ls)
        → line_most l ≤ max (line_most m) (kinds_most ls)
    go true d ih = rw (← some-injective m l (rw (d, kind_of) at e)) (omega arith)
    go false d ih = omega (arith, ih (rw (d, kind_of) at e))

row_most : (p : Part) (next : ℕ) (r : Row) → row_ok p next r ≡ true
    → length (row_text p.kinds r) ≤ kinds_most p.kinds
row_most p next r h = go (kind_of p.kinds r.letter) refl
  where
    go : (o : Option Line) → kind_of p.kinds r.letter ≡ o → length (row_text p.kinds r) ≤ kinds_most p.kinds
    go none e = absurd (true≢false (sym (rw (e, row_ok) at h)))
    go (some l) e =
        let m = line_most_lem (raised p.rising next l) 0 r.numbers (rw (e, row_ok) at h) in
        let n = rw (raised_text p.rising next l r.numbers) at m in
        rw (e, row_text)
        (omega (arith, n, risen_most p.rising next l.limits, kind_most p.kinds r.letter l e))

rows_most : (p : Part) (rs : Rows) (left next : ℕ) → rows_ok p next rs ≡ true → length rs ≤ left
    → length (rows_text p.kinds rs) ≤ left * kinds_most p.kinds
unfolding rows_ok rows_text
rows_most p [] left next h f = omega arith
rows_most p (r ∷ rs) zero next h f = absurd (omega arith)
rows_most p (r ∷ rs) (suc left) next h f =
    let hs = both_hold (row_ok p next r) (rows_ok p (next_after r) rs) h in
    let first = row_most p next r hs.0 in
    let rest = rows_most p rs left (next_after r) hs.1 (omega arith) in
    omega (arith, suc-mul left (kinds_most p.kinds), length-append (row_text p.kinds r) (rows_text p.kinds rs))

pub parts_most_lem : (ps : List Part) (v : List Rows) → parts_ok ps v ≡ true → length (parts_text ps v) ≤ parts_most ps
unfolding parts_ok parts_text parts_most
parts_most_lem [] v h = omega arith
parts_most_lem (p ∷ ps) [] h = absurd (true≢false (sym h))
parts_most_lem (p ∷ ps) (rs ∷ v) h =
    let a = both_hold (part_ok p rs) (parts_ok ps v) h in
    let c = part_held p rs a.0 in
    let first = rows_most p rs p.most 0 c.held c.few in
    omega (arith, length-append (rows_text p.kinds rs) (parts_text ps v), parts_most_lem ps v a.1)
