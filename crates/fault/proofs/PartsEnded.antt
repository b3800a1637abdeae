-- A text in which a limit is broken: the parts before it are by the rules as they are written.
use mathlib.Core.Path.{◌≡◌, sym}
use mathlib.Core.Bool.{true}
use mathlib.Core.List.{List, [], ◌∷◌, ◌++◌}
use Prim.Native.Nat.{ℕ, ◌+◌}
use native.Mathlib.Omega.{arith}
use lib.ListN.{length, drop}
use lib.Seq.{drop-append_seam}
use Rattle.answers.specs.Refusals.{broken_line, outside_limits}
use Rattle.form.specs.Parts.{Part, Rows}
use Rattle.form.specs.Outcome.{took, lost}
use Rattle.form.specs.Reading.{read_rows, read_parts}
use Rattle.form.specs.Writing.{rows_text}
use Rattle.form.proofs.Chain.{lost_not_found, Broken, at_first, at_rest, chain_lost}
use Rattle.form.proofs.Made.{parts_made}
use Rattle.form.proofs.RowsTrip.{rows_forth}
use Rattle.form.proofs.RowsBack.{rows_back}
use Rattle.fault.specs.Rules.{Rule, PartThen, PartsRule}
use Rattle.fault.proofs.Count.{Fits}
use Rattle.fault.proofs.Rows.{rows_goes}
use Rattle.fault.proofs.Sayable.{sayable}
use Rattle.fault.proofs.Made.{able}
use Rattle.fault.proofs.Ended.{Ended, ended_led}
use Rattle.fault.proofs.RowsEnded.{rows_ended_lem}

-- the rows of a part were read, and what follows is refused
rows_past : (p : Part) (S : Rule) (t : List ℕ) (j i k : ℕ) (rs : Rows) → Fits p p.most p.least S
    → read_rows p p.most p.least 0 t ≡ took j rs
    → k ≡ j + i
    → Ended S (drop j t) i
    → Ended (PartThen p S) t k
rows_past p S t j i k rs f d c g =
    let b = rows_back p p.most p.least 0 t j rs d in
    let x : List ℕ = rows_text p.kinds rs in
    ended_led b.led c
    (λ u w.
    let h : read_rows p p.most p.least 0 (x ++ u) ≡ took (length x) rs =
    rows_forth p rs p.most p.least 0 u f.made b.held b.many b.few
    (λ n. f.away (omega (arith, b.many)) u w) in
    (rows_goes p S p.most p.least 0 (x ++ u) (length x) rs f h).by (rw (drop-append_seam x u) w))
    g

pub parts_ended : (ps : List Part) (t : List ℕ) (k : ℕ) → parts_made ps ≡ true
    → sayable ps ≡ true
    → read_parts ps t ≡ lost outside_limits k
    → Ended (PartsRule ps) t k
unfolding read_parts
parts_ended [] [] k m s e = absurd (lost_not_found (sym e))
parts_ended [] (b ∷ t) k m s e = let z : broken_line ≡ outside_limits = cc in absurd (omega arith)
parts_ended (p ∷ ps) t k m s e =
    let a = able p ps m s in
    go (chain_lost (read_rows p p.most p.least 0 t) (λ (rs : Rows). read_parts ps) t outside_limits k e)
    (λ u i. parts_ended ps u i a.made a.said)
  where
    go : Broken (read_rows p p.most p.least 0 t) (λ (rs : Rows). read_parts ps) t outside_limits k
        → ((u : List ℕ) (i : ℕ) → read_parts ps u ≡ lost outside_limits i → Ended (PartsRule ps) u i)
        → Ended (PartsRule (p ∷ ps)) t k
    go (at_first d) ih = rows_ended_lem p (PartsRule ps) p.most p.least 0 t k (able p ps m s).fits d
    go (at_rest j rs i d f c) ih =
        rows_past p (PartsRule ps) t j i k rs (able p ps m s).fits d c (ih (drop j t) i f)
