-- A slot that is as it was stays as it should be: a hull's, and a desk's if its draft's hull is still entered and has
-- no lower number. So a memory stays well formed when one desk alone is changed, to what it should be.
use mathlib.Core.Path.{◌≡◌, refl, ◌∙◌}
use mathlib.Core.Bool.{Bool, true, false}
use mathlib.Core.Logic.{◌⊎◌, inl, inr}
use mathlib.Core.List.{List}
use Prim.Native.Nat.{ℕ, ◌≤◌, ◌<◌}
use native.Mathlib.Nat.{le_trans}
use native.Mathlib.Omega.{arith}
use borrow.Author.Tests.{eqb-true, eqb-false}
use lib.Dec.{eqb}
use Rattle.capacity.proofs.Scale.{Weighed}
use Rattle.memory.specs.Layout.{desks, hull_count, edit, held, draft_hull, Drafting}
use Rattle.memory.specs.Formed.{formed}
use Rattle.memory.proofs.Slots.{SameHull, SameDraft}
use Rattle.memory.proofs.OneSlot.{ButDesk, SheetChanges}
use Rattle.memory.proofs.Sound.{Hull, Draft, sound, sound_formed, held_draft}

pub same_or_not : (a b : ℕ) → (a ≡ b) ⊎ (a ≡ b → ⊥)
same_or_not a b = go (eqb a b) refl
  where
    go : (t : Bool) → eqb a b ≡ t → (a ≡ b) ⊎ (a ≡ b → ⊥)
    go true e = inl (eqb-true a b e)
    go false e = inr (eqb-false a b e)

pub same_hull : {o m : List ℕ} {i : ℕ} → SameHull o m i → Hull m i → Hull o i
same_hull s h = record { number = rw s.number h.number; sheet = rw (s.weight, s.sheet) h.sheet }

pub same_draft :
    {o m : List ℕ} {d : ℕ}
    → SameDraft o m d
    → hull_count m ≤ hull_count o
    → (Draft m d → edit m (draft_hull m d) ≤ edit o (draft_hull m d))
    → (held m d ≡ 0) ⊎ Draft m d
    → (held o d ≡ 0) ⊎ Draft o d
same_draft s c n (inl z) = inl (s.holds ∙ z)
same_draft s c n (inr h) =
    inr (record {
      holds = s.holds ∙ h.holds;
      entered = rw s.hull (le_trans h.entered c);
      opened = rw (s.opened, s.hull) (le_trans h.opened (n h));
      sheet = rw (s.weight, s.sheet) h.sheet;
    })

-- ---- a memory that is another in all but one desk

pub desk_formed :
    (m o : List ℕ) (d : ℕ)
    → formed m ≡ true
    → ButDesk o m d
    → (held o d ≡ 0) ⊎ Draft o d
    → formed o ≡ true
desk_formed m o d f c own =
    let a = sound m f in
    sound_formed o
    (record {
      size = c.size;
      few = omega (arith, c.counts, a.few);
      hulls = λ (i : ℕ) (l : i < hull_count o).
          let j : i < hull_count m = omega (arith, c.counts) in
          same_hull (c.hulls i (omega (arith, a.few))) (a.hulls i j);
      drafts = λ (e : ℕ) (l : e < desks). elim (same_or_not e d) [
        | inl q ↦ rw q own
        | inr n ↦
            same_draft (c.others e l n) (omega (arith, c.counts))
            (λ (h : Draft m e). omega (arith, (c.hulls (draft_hull m e) (omega (arith, a.few))).number)) (a.drafts e l)
      ];
    })

-- a draft's sheet changed for another within limits, and its weight with it
pub sheet_formed :
    (m o : List ℕ) (d : ℕ) {v : ℕ} {s : List ℕ}
    → formed m ≡ true
    → d < desks
    → Drafting m d
    → SheetChanges o m d v s
    → Weighed v s
    → formed o ≡ true
sheet_formed m o d f l n c w =
    let a = sound m f in
    let h : Draft m d = held_draft m d f l n in
    let same = c.rest.hulls (draft_hull m d) (omega (arith, a.few, h.entered)) in
    let number : edit o (draft_hull o d) ≡ edit m (draft_hull m d) = rw c.hull same.number in
    desk_formed m o d f c.rest
    (inr (record {
      holds = c.holds ∙ h.holds;
      entered = omega (arith, c.hull, c.rest.counts, h.entered);
      opened = omega (arith, c.number, number, h.opened);
      sheet = rw (c.weight, c.sheet) w;
    }))
