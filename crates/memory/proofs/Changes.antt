-- What fresh start, a hull entered and a draft saved make of the memory's slots, and what each leaves.
use mathlib.Core.Path.{◌≡◌, ◌∙◌}
use mathlib.Core.List.{List, [], ◌∷◌}
use Prim.Native.Nat.{ℕ, ◌+◌, ◌<◌}
use native.Mathlib.Omega.{arith}
use lib.ListN.{length, get_or, length-replicate}
use lib.Seq.{sets, get_or-set_same, get_or-set_other}
use Rattle.sheet.specs.Places.{sheet_words}
use Rattle.capacity.specs.Weights.{boat_m}
use Rattle.memory.specs.Layout.{most_hulls, desks, register_words, Sized, hull_slot, count_at, hull_at, held_at}
use Rattle.memory.specs.Layout.{hull_count, edit, hull_weight, hull_sheet, held, draft_hull, draft_weight, draft_sheet}
use Rattle.memory.specs.Updates.{fresh_words, entered, dropped, saved}
use Rattle.memory.proofs.Parts.{word_first, zero_word}
use Rattle.memory.proofs.Slots.{draft_long, SameHull, SameDraft}
use Rattle.memory.proofs.Slots.{leaves, leaves_both, kept_hull, kept_draft}
use Rattle.memory.proofs.OneSlot.{Laid, hull_laid}

-- ---- the whole memory, and a hull's slot with the count

pub record FreshChanges : Type 0 where
  pub size : Sized fresh_words
  pub words : (k : ℕ) → get_or fresh_words k 0 ≡ 0

pub fresh_changes : FreshChanges
unfolding fresh_words
fresh_changes = record { size = length-replicate {A = ℕ} register_words 0; words = zero_word register_words }

pub record EnteredChanges (m s : List ℕ) : Type 0 where
  pub size : Sized (entered m s)
  pub counts : hull_count (entered m s) ≡ hull_count m + 1
  pub number : edit (entered m s) (hull_count m) ≡ 0
  pub weight : hull_weight (entered m s) (hull_count m) ≡ boat_m s
  pub sheet : hull_sheet (entered m s) (hull_count m) ≡ s
  pub others : (i : ℕ) → i < most_hulls → (i ≡ hull_count m → ⊥) → SameHull (entered m s) m i
  pub drafts : (d : ℕ) → d < desks → SameDraft (entered m s) m d

pub entered_changes : (m s : List ℕ) → Sized m → hull_count m < most_hulls → length s ≡ sheet_words → EnteredChanges m s
unfolding entered
entered_changes m s h l e =
    let n : ℕ = hull_count m in
    let o : List ℕ = sets m (hull_at n) (hull_slot 0 (boat_m s) s) in
    let a : Laid m n 0 (boat_m s) s = hull_laid m n 0 (boat_m s) s h l e in
    let count = leaves o count_at ((n + 1) ∷ []) a.rest.same_size in
    let new = kept_hull count n l (λ k u v x y. omega arith) in
    let both = leaves_both count a.rest in
    record {
      size = count.same_size;
      counts = get_or-set_same o count_at (n + 1) 0 (omega (arith, a.rest.same_size));
      number = new.number ∙ a.number;
      weight = new.weight ∙ a.weight;
      sheet = new.sheet ∙ a.sheet;
      others = λ i k q. kept_hull both i k (λ j u v. (λ x y. omega arith, λ x y. q (omega arith)));
      drafts = λ d k. kept_draft both d k (λ j u v. (λ x y. omega arith, λ x y. omega arith));
    }

-- ---- a draft's end: of all words its desk's mark is set

pub dropped_one : (m : List ℕ) (d k : ℕ) → (k ≡ held_at d → ⊥) → get_or (dropped m d) k 0 ≡ get_or m k 0
unfolding dropped
dropped_one m d k n = get_or-set_other m (held_at d) k _ 0 n

-- ---- a hull's slot and then a desk's

pub record SavedChanges (m : List ℕ) (d : ℕ) : Type 0 where
  pub size : Sized (saved m d)
  pub counts : hull_count (saved m d) ≡ hull_count m
  pub number : edit (saved m d) (draft_hull m d) ≡ edit m (draft_hull m d) + 1
  pub weight : hull_weight (saved m d) (draft_hull m d) ≡ draft_weight m d
  pub sheet : hull_sheet (saved m d) (draft_hull m d) ≡ draft_sheet m d
  pub others : (i : ℕ) → i < most_hulls → (i ≡ draft_hull m d → ⊥) → SameHull (saved m d) m i
  pub drafts : (e : ℕ) → e < desks → (e ≡ d → ⊥) → SameDraft (saved m d) m e
  pub holds : held (saved m d) d ≡ 0

pub saved_changes : (m : List ℕ) (d : ℕ) → Sized m → d < desks → draft_hull m d < most_hulls → SavedChanges m d
unfolding saved dropped
saved_changes m d h l k =
    let i : ℕ = draft_hull m d in
    let n : ℕ = edit m i + 1 in
    let w : ℕ = draft_weight m d in
    let o : List ℕ = sets m (hull_at i) (hull_slot n w (draft_sheet m d)) in
    let a : Laid m i n w (draft_sheet m d) = hull_laid m i n w (draft_sheet m d) h k (draft_long m d h l) in
    let mark = leaves o (held_at d) (0 ∷ []) a.rest.same_size in
    let new = kept_hull mark i k (λ j u v x y. omega arith) in
    let both = leaves_both mark a.rest in
    record {
      size = mark.same_size;
      counts = both.word count_at (λ x y. omega arith, λ x y. omega arith);
      number = new.number ∙ a.number;
      weight = new.weight ∙ a.weight;
      sheet = new.sheet ∙ a.sheet;
      others = λ j f q. kept_hull both j f (λ p u v. (λ x y. omega arith, λ x y. q (omega arith)));
      drafts = λ e f q. kept_draft both e f (λ p u v. (λ x y. q (omega arith), λ x y. omega arith));
      holds = word_first o (held_at d) 0 [] (omega (arith, a.rest.same_size));
    }
