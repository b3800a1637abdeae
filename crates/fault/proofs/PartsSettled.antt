-- A text up to a place, read: parts with as many rows as they may have, all within their limits, are taken, and what
-- stands after them decides; a number outside its limit is refused with 3 there.
use mathlib.Core.Path.{◌≡◌}
use mathlib.Core.Bool.{true, ◌&&◌}
use mathlib.Core.Logic.{inl, inr}
use mathlib.Core.List.{List, [], ◌∷◌}
use Prim.Native.Nat.{ℕ}
use native.Mathlib.Omega.{arith}
use lib.Seq.{drop-append_seam}
use Rattle.answers.specs.Refusals.{outside_limits}
use Rattle.ground.proofs.Booleans.{both_hold}
use Rattle.form.specs.Parts.{Part}
use Rattle.form.specs.Outcome.{lost}
use Rattle.form.specs.Reading.{read_parts}
use Rattle.form.specs.Writing.{rows_text}
use Rattle.form.proofs.Letters.{kinds_made}
use Rattle.form.proofs.Made.{told, parts_made}
use Rattle.form.proofs.RowsTrip.{rows_forth}
use Rattle.form.proofs.Trip.{told_apart}
use Rattle.fault.specs.Reached.{PartsStop}
use Rattle.fault.proofs.KindTold.{stop_away}
use Rattle.fault.proofs.RowsSettled.{rows_settled}

pub parts_settled : (ps : List Part) (t : List ℕ) (k : ℕ) → parts_made ps ≡ true → PartsStop outside_limits ps t k
    → read_parts ps t ≡ lost outside_limits k
unfolding read_parts parts_made
parts_settled [] t k m (q, z) = absurd (omega arith)
parts_settled (p ∷ ps) t k m (inl s) =
    let ms = both_hold (kinds_made p.kinds) (told p ps && parts_made ps) m in
    rw (rows_settled p p.most p.least 0 t k ms.0 s)
parts_settled (p ∷ ps) t k m (inr s) =
    let ms = both_hold (kinds_made p.kinds) (told p ps && parts_made ps) m in
    let ns = both_hold (told p ps) (parts_made ps) ms.1 in
    let rows = rows_forth p s.before p.most p.least 0 s.rest ms.0 s.held s.many s.few
    (λ h.
    stop_away p.kinds outside_limits ps s.rest s.into ns.1
    (told_apart p ps (omega (arith, s.many)) ns.0) (λ q. absurd (omega arith)) s.there) in
    let rest = parts_settled ps s.rest s.into ns.1 s.there in
    rw (s.text, s.place, rows, drop-append_seam (rows_text p.kinds s.before) s.rest, rest)
