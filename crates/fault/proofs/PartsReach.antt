-- A text that stops with 2 at a place: its reader comes as far as the field there, so no field that ended before the
-- place is one that it refuses.
use mathlib.Core.Path.{◌≡◌, ap, ◌∙◌}
use mathlib.Core.Bool.{true, ◌&&◌}
use mathlib.Core.Logic.{inl, inr}
use mathlib.Core.List.{List, [], ◌∷◌, ◌++◌}
use Prim.Native.Nat.{ℕ, ◌+◌, ◌-◌, ◌≤◌, ◌<◌}
use native.Mathlib.Omega.{arith}
use lib.ListN.{length}
use lib.Seq.{drop-append_seam}
use Rattle.answers.specs.Refusals.{broken_line}
use Rattle.ground.proofs.Booleans.{both_hold, by_less}
use Rattle.form.specs.Parts.{Part, Rows}
use Rattle.form.specs.Outcome.{Found, chained}
use Rattle.form.specs.Reading.{read_rows, read_parts}
use Rattle.form.specs.Writing.{rows_text}
use Rattle.form.proofs.Letters.{kinds_made}
use Rattle.form.proofs.Made.{told, parts_made}
use Rattle.form.proofs.RowsTrip.{rows_forth}
use Rattle.form.proofs.Trip.{told_apart}
use Rattle.fault.specs.Reached.{next_of, PartsStop}
use Rattle.fault.proofs.Ended.{after_field}
use Rattle.fault.proofs.KindTold.{stop_away}
use Rattle.fault.proofs.RowsSettled.{rows_read_on}
use Rattle.fault.proofs.LineReach.{after_led}
use Rattle.fault.proofs.RowsReach.{reached, ahead_reached, further_reached, chain_reached, rows_reach_lem}

pub parts_reach : (ps : List Part) (t : List ℕ) (k j : ℕ) → parts_made ps ≡ true → PartsStop broken_line ps t k
    → reached (read_parts ps t) ≤ j
    → k < after_field t j
unfolding read_parts parts_made
parts_reach [] t k j m (q, z) h = omega arith
parts_reach (p ∷ ps) t k j m (inl s) h =
    let ms = both_hold (kinds_made p.kinds) (told p ps && parts_made ps) m in
    let c = chain_reached (read_rows p p.most p.least 0 t) (λ (rs : Rows). read_parts ps) t in
    rows_reach_lem p p.most p.least 0 t k j ms.0 s (omega (arith, c))
parts_reach (p ∷ ps) t k j m (inr s) h =
    let ms = both_hold (kinds_made p.kinds) (told p ps && parts_made ps) m in
    let ns = both_hold (told p ps) (parts_made ps) ms.1 in
    by_less 0 s.into (λ g. later ms.0 ns.0 ns.1 g (parts_reach ps s.rest s.into))
    (λ g. here ms.0 g)
  where
    x : List ℕ
    x = rows_text p.kinds s.before

    rest : Rows → List ℕ → Found (List Rows)
    rest rs = read_parts ps

    -- at the first byte after the part's rows
    here : kinds_made p.kinds ≡ true → s.into ≤ 0 → k < after_field t j
    here m g =
        let end : Found Rows =
        read_rows p (p.most - length s.before) (p.least - length s.before) (next_of 0 s.before) s.rest in
        let past = rows_read_on p s.before p.most p.least 0 s.rest m s.held s.few in
        let e = ap reached past ∙ further_reached (length x) s.before end in
        let c = chain_reached (read_rows p p.most p.least 0 (x ++ s.rest)) rest (x ++ s.rest) in
        let n : reached (chained (read_rows p p.most p.least 0 (x ++ s.rest)) rest (x ++ s.rest)) ≤ j =
        rw s.text at h in
        omega (arith, s.place, e, c, n)

    -- or further on
    later : kinds_made p.kinds ≡ true → told p ps ≡ true → parts_made ps ≡ true → 0 < s.into
        → ((i : ℕ) → parts_made ps ≡ true → PartsStop broken_line ps s.rest s.into
        → reached (read_parts ps s.rest) ≤ i
        → s.into < after_field s.rest i)
        → k < after_field t j
    later m d n g ih =
        let rows = rows_forth p s.before p.most p.least 0 s.rest m s.held s.many s.few
        (λ a.
        stop_away p.kinds broken_line ps s.rest s.into n (told_apart p ps (omega (arith, s.many)) d)
        (λ q. g) s.there) in
        let e : reached (read_parts (p ∷ ps) t) ≡ length x + reached (read_parts ps s.rest) =
        rw (s.text, rows, drop-append_seam x s.rest)
        (ahead_reached (length x) s.before (read_parts ps s.rest)) in
        let i = ih (j - length x) n s.there (omega (arith, e, h)) in
        rw (s.place, s.text) (after_led x s.rest s.into j (omega (arith, e, h)) i)
