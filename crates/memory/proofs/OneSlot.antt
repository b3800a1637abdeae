-- A write within one slot: what is laid there, and that every other slot is as it was.
use mathlib.Core.Path.{◌≡◌}
use mathlib.Core.List.{List}
use Prim.Native.Nat.{ℕ, ◌<◌}
use native.Mathlib.Omega.{arith}
use lib.ListN.{length}
use lib.Seq.{sets}
use Rattle.sheet.specs.Places.{sheet_words}
use Rattle.memory.specs.Layout.{most_hulls, desks, hull_words, draft_words, Sized, hull_front, hull_slot, count_at}
use Rattle.memory.specs.Layout.{hull_at, draft_at, hull_sheet_at, held_at, draft_hull_at, opening_at, draft_weight_at}
use Rattle.memory.specs.Layout.{weighed_words, hull_count, edit, hull_weight, hull_sheet}
use Rattle.memory.specs.Layout.{held, draft_hull, opening, draft_weight, draft_sheet}
use Rattle.memory.proofs.Parts.{Outside, word_inside, part_after}
use Rattle.memory.proofs.Slots.{SameHull, SameDraft, Leaves, leaves, kept_hull, kept_draft}

-- ---- hull h's slot laid anew: its number n, the boat's weight w, its sheet s

pub record Laid (m : List ℕ) (h n w : ℕ) (s : List ℕ) : Type 0 where
  pub rest : Leaves (sets m (hull_at h) (hull_slot n w s)) m (Outside (hull_at h) hull_words)
  pub number : edit (sets m (hull_at h) (hull_slot n w s)) h ≡ n
  pub weight : hull_weight (sets m (hull_at h) (hull_slot n w s)) h ≡ w
  pub sheet : hull_sheet (sets m (hull_at h) (hull_slot n w s)) h ≡ s

pub hull_laid : (m : List ℕ) (h n w : ℕ) (s : List ℕ)
    → Sized m
    → h < most_hulls
    → length s ≡ sheet_words
    → Laid m h n w s
hull_laid m h n w s k l e =
    record {
      rest = rw e at (leaves m (hull_at h) (hull_slot n w s) k);
      number = word_inside m (hull_at h) (hull_slot n w s) 0 (omega arith) (omega arith) (omega arith);
      weight = word_inside m (hull_at h) (hull_slot n w s) 1 (omega arith) (omega arith) (omega arith);
      sheet = part_after m (hull_at h) (hull_front n w) s (hull_sheet_at h) (omega arith) e (omega arith);
    }

-- ---- writes within desk d's slot: o is m in all but desk d

pub record ButDesk (o m : List ℕ) (d : ℕ) : Type 0 where
  pub size : Sized o
  pub counts : hull_count o ≡ hull_count m
  pub hulls : (i : ℕ) → i < most_hulls → SameHull o m i
  pub others : (e : ℕ) → e < desks → (e ≡ d → ⊥) → SameDraft o m e

module _ {o m : List ℕ} {P : ℕ → Type 0} (w : Leaves o m P) (d : ℕ) (l : d < desks) where
  pub but_desk : ((k : ℕ) → Outside (draft_at d) draft_words k → P k) → ButDesk o m d
  but_desk f =
      record {
        size = w.same_size;
        counts = w.word count_at (f count_at (λ x y. omega arith));
        hulls = λ (i : ℕ) (k : i < most_hulls). kept_hull w i k (λ j u v. f j (λ x y. omega arith));
        others = λ (e : ℕ) (k : e < desks) (n : e ≡ d → ⊥). kept_draft w e k (λ j u v. f j (λ x y. n (omega arith)));
      }

-- desk d's draft has the sheet s, by which its boat weighs v, and all else is as it was
pub record SheetChanges (o m : List ℕ) (d v : ℕ) (s : List ℕ) : Type 0 where
  pub rest : ButDesk o m d
  pub holds : held o d ≡ held m d
  pub hull : draft_hull o d ≡ draft_hull m d
  pub number : opening o d ≡ opening m d
  pub weight : draft_weight o d ≡ v
  pub sheet : draft_sheet o d ≡ s

pub sheet_changes :
    {o m : List ℕ} {P : ℕ → Type 0} (d : ℕ) {v : ℕ} {s : List ℕ}
    → Leaves o m P
    → d < desks
    → ((k : ℕ) → Outside (draft_weight_at d) weighed_words k → P k)
    → draft_weight o d ≡ v
    → draft_sheet o d ≡ s
    → SheetChanges o m d v s
sheet_changes d w l f e g =
    record {
      rest = but_desk w d l (λ k n. f k (λ x y. n (omega arith) (omega arith)));
      holds = w.word (held_at d) (f (held_at d) (λ x y. omega arith));
      hull = w.word (draft_hull_at d) (f (draft_hull_at d) (λ x y. omega arith));
      number = w.word (opening_at d) (f (opening_at d) (λ x y. omega arith));
      weight = e;
      sheet = g;
    }
