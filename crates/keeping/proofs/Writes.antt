-- The changes to the memory, as the code makes them word after word.
use mathlib.Core.Path.{◌≡◌, refl, ap}
use mathlib.Core.List.{List, [], ◌∷◌}
use Prim.Native.Nat.{ℕ, suc, ◌+◌, ◌-◌, ◌≤◌, ◌<◌}
use native.Mathlib.Omega.{arith}
use lib.ListN.{length, length-set, set}
use native.Mathlib.Numerals.{add-one}
use lib.Seq.{paste, sets, sets-eq, take_all}
use Rattle.capacity.specs.Weights.{boat_m}
use Rattle.memory.specs.Layout.{most_hulls, desks, weighed_words, Sized, part}
use Rattle.memory.specs.Layout.{count_at, edit_at, hull_weight_at, held_at, draft_hull_at, opening_at, draft_weight_at}
use Rattle.memory.specs.Layout.{hull_count, edit, hull_weight, hull_sheet, draft_hull, draft_weight, draft_sheet}
use Rattle.std.specs.List.{copy_within}
use Rattle.memory.specs.Asked.{ToCopy}
use Rattle.memory.specs.Updates.{entered, opened, replaced, dropped, saved}
use Rattle.memory.proofs.Parts.{sets_before, part_length}
use Rattle.memory.proofs.Slots.{hull_run, draft_run}

-- ---- a weighed sheet copied within the memory

pub copied_as : (m : List ℕ) (from to : ℕ)
    → ToCopy m from to
    → copy_within m from (from + weighed_words) to ≡ sets m to (part m from weighed_words)
copied_as m from to h =
    let n = part_length m from weighed_words h.source in
    let k : from + weighed_words - from ≡ weighed_words = omega arith in
    rw (sets-eq (part m from weighed_words) m to (omega arith), n, k) refl

-- ---- a weight and a sheet laid from a place on

pub weighed_laid : (m s : List ℕ) (at w : ℕ)
    → at + 1 + length s ≤ length m
    → paste (set m at w) (at + 1) s (length s) ≡ sets m at (w ∷ s)
weighed_laid m s at w h =
    let n : suc at + length s ≤ length (set m at w) = simp length-set (omega arith) in
    rw (sets-eq s (set m at w) (suc at) n, take_all (length s) s (omega arith), add-one) refl

-- ---- the changes that write more than a word

pub entered_as :
    (m s : List ℕ) {w : ℕ} {o : List ℕ}
    → w ≡ boat_m s
    → o ≡ sets (set m (edit_at (hull_count m)) 0) (hull_weight_at (hull_count m)) (w ∷ s)
    → set o count_at (hull_count m + 1) ≡ entered m s
unfolding entered
entered_as m s q e =
    let n : hull_weight_at (hull_count m) ≡ suc (edit_at (hull_count m)) = omega arith in
    rw (e, n, q) refl

pub replaced_as :
    (m s : List ℕ) (d : ℕ) {w : ℕ} {o : List ℕ}
    → w ≡ boat_m s
    → o ≡ sets m (draft_weight_at d) (w ∷ s)
    → o ≡ replaced m d s
unfolding replaced
replaced_as m s d q e = rw (e, q) refl

pub opened_as :
    (m : List ℕ) (d h : ℕ) {o : List ℕ}
    → Sized m
    → h < most_hulls
    → o ≡ sets m (draft_weight_at d) (part m (hull_weight_at h) weighed_words)
    → set (set (set o (held_at d) 1) (draft_hull_at d) h) (opening_at d) (edit m h) ≡ opened m d h
unfolding opened
opened_as m d h z l e =
    let p : draft_hull_at d ≡ suc (held_at d) = omega arith in
    let q : opening_at d ≡ suc (suc (held_at d)) = omega arith in
    let words : List ℕ = 1 ∷ h ∷ edit m h ∷ [] in
    let r : draft_weight_at d ≡ held_at d + length words = omega arith in
    rw (e, p, q, r, hull_run m h z l)
    (sets_before m (held_at d) words (hull_weight m h ∷ hull_sheet m h))

pub saved_as :
    (m : List ℕ) (d : ℕ) {i : ℕ} {o : List ℕ}
    → Sized m
    → d < desks
    → i ≡ draft_hull m d
    → o ≡ sets m (hull_weight_at i) (part m (draft_weight_at d) weighed_words)
    → set (set o (edit_at i) (edit m i + 1)) (held_at d) 0 ≡ saved m d
unfolding saved dropped
saved_as m d z l q e =
    let h : ℕ = draft_hull m d in
    let words : List ℕ = (edit m h + 1) ∷ [] in
    let n : hull_weight_at h ≡ edit_at h + length words = omega arith in
    rw (e, q, n, draft_run m d z l)
    (ap (λ (l : List ℕ). set l (held_at d) 0) (sets_before m (edit_at h) words (draft_weight m d ∷ draft_sheet m d)))
