-- 02 (vii): plates, trials and the weight that is asked for go by the weight that is held, in every memory: no fitting
-- is summed again, also where the weight is not its sheet's. In one that is well formed it is, and so they are the
-- sheet's.
use mathlib.Core.Path.{◌≡◌, refl, ap}
use mathlib.Core.Bool.{true}
use mathlib.Core.List.{List}
use Prim.Native.Nat.{ℕ}
use Rattle.answers.specs.Answer.{Count}
use Rattle.capacity.specs.Weights.{boat_m, weighed_ok}
use Rattle.capacity.specs.Kinds.{PlateKind, plate_by, plate_of}
use Rattle.capacity.proofs.Scale.{weighed, weighed_back}
use Rattle.capacity.proofs.Weighed.{plates_of}
use Rattle.memory.specs.Layout.{hull_weight, hull_sheet, draft_weight, draft_sheet}
use Rattle.memory.proofs.Sound.{sound}
use Rattle.register.specs.Refusals.{hull_refusal, desk_refusal}
use Rattle.register.specs.Calls.{try_plate, plate, weigh, work, ask, own, step}
use Rattle.register.proofs.Refusals.{hull_goes, desk_goes}

module _ (m : List ℕ) where
  pub plates_by_held : (h : ℕ) (k : PlateKind) → own m (ask h (plate k)) ≡ plate_by k (hull_weight m h) (hull_sheet m h)
  plates_by_held h k = refl

  pub trials_by_held : (d : ℕ) (k : PlateKind)
      → own m (work d (try_plate k)) ≡ plate_by k (draft_weight m d) (draft_sheet m d)
  trials_by_held d k = refl

  pub asked_held : (h : ℕ) → own m (ask h weigh) ≡ Count (hull_weight m h)
  asked_held h = refl

-- ---- where nothing that calls share refuses the call

module _ (m : List ℕ) (h : ℕ) (z : hull_refusal m h ≡ 0) where
  held_is : weighed_ok (hull_weight m h) (hull_sheet m h) ≡ true
  held_is = let g = hull_goes m h z in weighed_back ((sound m g.ok).hulls h g.entered).sheet

  pub plates_sheets : (k : PlateKind) → (step m (ask h (plate k))).answer ≡ plate_of k (hull_sheet m h)
  plates_sheets k = rw z (plates_of k (hull_weight m h) (hull_sheet m h) held_is)

  pub weight_sheets : (step m (ask h weigh)).answer ≡ Count (boat_m (hull_sheet m h))
  weight_sheets = rw z (ap Count (weighed (hull_weight m h) (hull_sheet m h) held_is).weight_is)

pub trials_sheets : (m : List ℕ) (d : ℕ) (k : PlateKind)
    → desk_refusal m d ≡ 0
    → (step m (work d (try_plate k))).answer ≡ plate_of k (draft_sheet m d)
trials_sheets m d k z =
    rw z (plates_of k (draft_weight m d) (draft_sheet m d) (weighed_back (desk_goes m d z).draft.sheet))
