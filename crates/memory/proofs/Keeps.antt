-- Every change keeps the memory well formed.
use mathlib.Core.Path.{◌≡◌, refl}
use mathlib.Core.Bool.{true}
use mathlib.Core.Logic.{inl, inr}
use mathlib.Core.List.{List}
use Prim.Native.Nat.{ℕ, ◌≤◌, ◌<◌}
use native.Mathlib.Omega.{arith}
use Rattle.sheet.specs.Lines.{fittings}
use Rattle.sheet.specs.Sheet.{fit_ok, words_ok}
use Rattle.sheet.proofs.Words.{words_length}
use Rattle.capacity.specs.Weights.{boat_m}
use Rattle.capacity.proofs.Scale.{Weighed}
use Rattle.memory.specs.Layout.{most_hulls, desks, held_at, hull_count, edit, draft_hull, draft_sheet, Drafting}
use Rattle.memory.specs.Formed.{most_edits, formed}
use Rattle.memory.specs.Updates.{fresh_words, entered, opened, fitted, replaced, dropped, saved}
use Rattle.memory.proofs.Sound.{Draft, sound, sound_formed, held_draft}
use Rattle.memory.proofs.Same.{same_or_not, same_hull, same_draft, desk_formed, sheet_formed}
use Rattle.memory.proofs.Fittings.{fitted_words, weight_follows}
use Rattle.memory.proofs.DeskChanges.{opened_changes, fitted_changes, replaced_changes, dropped_changes}
use Rattle.memory.proofs.Changes.{fresh_changes, entered_changes, saved_changes}

-- ---- fresh start, and a hull entered

own : (s : List ℕ) → words_ok s ≡ true → Weighed (boat_m s) s
own s w = record { within = w; weight_is = refl }

pub fresh_formed : formed fresh_words ≡ true
fresh_formed =
    let zeros = fresh_changes.words in
    sound_formed fresh_words
    (record {
      size = fresh_changes.size;
      few = omega (arith, zeros 0);
      hulls = λ (i : ℕ) (l : i < hull_count fresh_words). absurd (omega (arith, zeros 0));
      drafts = λ (d : ℕ) (l : d < desks). inl (zeros (held_at d));
    })

pub entered_formed :
    (m s : List ℕ)
    → formed m ≡ true
    → hull_count m < most_hulls
    → words_ok s ≡ true
    → formed (entered m s) ≡ true
entered_formed m s f l w =
    let a = sound m f in
    let c = entered_changes m s a.size l (words_length s w) in
    sound_formed (entered m s)
    (record {
      size = c.size;
      few = omega (arith, c.counts);
      hulls = λ (i : ℕ) (k : i < hull_count (entered m s)). elim (same_or_not i (hull_count m)) [
        | inl q ↦ rw q (record { number = omega (arith, c.number); sheet = rw (c.weight, c.sheet) (own s w) })
        | inr n ↦
            let j : i < hull_count m = omega (arith, c.counts) in
            same_hull (c.others i (omega arith) n) (a.hulls i j)
      ];
      drafts = λ (d : ℕ) (k : d < desks). same_draft (c.drafts d k) (omega (arith, c.counts))
          (λ (h : Draft m d). omega (arith, (c.others (draft_hull m d) (omega arith) (λ q. omega arith)).number))
          (a.drafts d k);
    })

-- ---- the changes of one desk, and a draft saved

module _ (m : List ℕ) (d : ℕ) where
  pub opened_formed : (h : ℕ) → formed m ≡ true → d < desks → h < hull_count m → formed (opened m d h) ≡ true
  opened_formed h f l k =
      let a = sound m f in
      let j : h < most_hulls = omega (arith, a.few) in
      let c = opened_changes m d h a.size l j in
      let o : List ℕ = opened m d h in
      let number : edit o (draft_hull o d) ≡ edit m h = rw c.hull (c.rest.hulls h j).number in
      desk_formed m o d f c.rest
      (inr (record {
        holds = c.holds;
        entered = omega (arith, c.hull, c.rest.counts);
        opened = omega (arith, c.number, number);
        sheet = rw (c.weight, c.sheet) (a.hulls h k).sheet;
      }))

  pub fitted_formed :
      (line w c : ℕ)
      → formed m ≡ true
      → d < desks
      → Drafting m d
      → 1 ≤ line
      → line ≤ fittings
      → fit_ok w c ≡ true
      → formed (fitted m d line w c) ≡ true
  fitted_formed line w c f l n a b h =
      let k = (held_draft m d f l n).sheet in
      sheet_formed m (fitted m d line w c) d f l n (fitted_changes m d line w c (sound m f).size l a b)
      (record {
        within = fitted_words w c h (draft_sheet m d) line k.within a b;
        weight_is = weight_follows m d line w c k a b;
      })

  pub replaced_formed :
      (s : List ℕ)
      → formed m ≡ true
      → d < desks
      → Drafting m d
      → words_ok s ≡ true
      → formed (replaced m d s) ≡ true
  replaced_formed s f l n w =
      sheet_formed m (replaced m d s) d f l n (replaced_changes m d s (sound m f).size l (words_length s w))
      (own s w)

  pub dropped_formed : formed m ≡ true → d < desks → formed (dropped m d) ≡ true
  dropped_formed f l =
      let c = dropped_changes m d (sound m f).size l in
      desk_formed m (dropped m d) d f c.rest (inl c.holds)

  pub saved_formed :
      formed m ≡ true
      → d < desks
      → Drafting m d
      → edit m (draft_hull m d) < most_edits
      → formed (saved m d) ≡ true
  saved_formed f l n b =
      let a = sound m f in
      let h : Draft m d = held_draft m d f l n in
      let g : ℕ = draft_hull m d in
      let c = saved_changes m d a.size l (omega (arith, a.few, h.entered)) in
      let rises : (i : ℕ) → i < most_hulls → edit m i ≤ edit (saved m d) i =
      λ (i : ℕ) (k : i < most_hulls). elim (same_or_not i g) [
        | inl q ↦ rw q (omega (arith, c.number))
        | inr j ↦ omega (arith, (c.others i k j).number)
      ]
      in
      sound_formed (saved m d)
      (record {
        size = c.size;
        few = omega (arith, c.counts, a.few);
        hulls = λ (i : ℕ) (k : i < hull_count (saved m d)). elim (same_or_not i g) [
          | inl q ↦ rw q (record { number = omega (arith, c.number); sheet = rw (c.weight, c.sheet) h.sheet })
          | inr o ↦
              let j : i < hull_count m = omega (arith, c.counts) in
              same_hull (c.others i (omega (arith, a.few)) o) (a.hulls i j)
        ];
        drafts = λ (e : ℕ) (k : e < desks). elim (same_or_not e d) [
          | inl q ↦ rw q (inl c.holds)
          | inr o ↦
              same_draft (c.drafts e k o) (omega (arith, c.counts))
              (λ (x : Draft m e). rises (draft_hull m e) (omega (arith, a.few))) (a.drafts e k)
        ];
      })
