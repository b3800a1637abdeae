-- The memory of a run, by its history alone: the sheets of its hulls, and their weights. Of any memory m of the right
-- size, fresh start on it, and any list of calls after it, newest first.
use Prim.Native.Nat.{ℕ, ◌<◌}
use mathlib.Core.Path.{◌≡◌, ◌∙◌}
use mathlib.Core.List.{List}
use lib.ListN.{length}
use lib.IntN.{pos}
use Rattle.memory.specs.Layout.{register_words, hull_count, hull_weight, hull_sheet}
use Rattle.register.specs.Calls.{Call}
use Rattle.history.specs.Runs.{after, history}
use Rattle.history.specs.Weights.{sheet_told, weight_told}
use Rattle.history.proofs.ModelStep.{state_of}
use Rattle.history.proofs.Shown.{there_few, shown_sheet, shown_weight}
use Rattle.history.proofs.RunsShown.{run_shows, run_history}
use Rattle.history.proofs.HullsTold.{hulls_told}

module _ (m : List ℕ) (z : length m ≡ register_words) where
  pub there : (cs : List Call) {h : ℕ} → h < hull_count (after m cs) → h < (state_of cs).register.entered
  there cs l = rw (← (run_shows m z cs).counts) l

  -- A hull's sheet is that of the text it was entered with, with the work of each accepted save's block done on it.
  pub sheets_told : (cs : List Call) (h : ℕ)
      → h < hull_count (after m cs)
      → hull_sheet (after m cs) h ≡ sheet_told h (history m cs)
  sheets_told cs h l =
      let S = run_shows m z cs in
      rw (run_history m z cs) (shown_sheet S (there_few S l) ∙ (hulls_told cs).sheet h (there cs l))

  -- Its weight is what it weighed when it was entered, with the difference that each accepted save made.
  pub weights_told : (cs : List Call) (h : ℕ)
      → h < hull_count (after m cs)
      → pos (hull_weight (after m cs) h) ≡ weight_told h (history m cs)
  weights_told cs h l =
      let w = shown_weight (run_shows m z cs) (there cs l) in
      rw (run_history m z cs, w) ((hulls_told cs).weight h (there cs l))
