-- One law for a hull's slot and one for a desk's: a write that leaves its places leaves it as it was.
use mathlib.Core.Path.{◌≡◌, refl, ◌∙◌}
use mathlib.Core.List.{List, ◌∷◌}
use Prim.Native.Nat.{ℕ, suc, ◌+◌, ◌≤◌, ◌<◌}
use native.Mathlib.Omega.{arith}
use lib.ListN.{length, get_or}
use lib.Seq.{sets, length-sets}
use Rattle.sheet.specs.Places.{sheet_words}
use Rattle.memory.specs.Layout.{most_hulls, desks, hull_words, draft_words, weighed_words, register_words, Sized}
use Rattle.memory.specs.Layout.{hull_at, edit_at, hull_weight_at, hull_sheet_at, draft_at, held_at, draft_hull_at}
use Rattle.memory.specs.Layout.{opening_at, draft_weight_at, draft_sheet_at, part, edit, hull_weight, hull_sheet}
use Rattle.memory.specs.Layout.{held, draft_hull, opening, draft_weight, draft_sheet}
use Rattle.memory.proofs.Parts.{Outside, word_outside, part_length, part_first, part_same}

-- a sheet in the memory has all of its words
pub hull_long : (m : List ℕ) (h : ℕ) → Sized m → h < most_hulls → length (hull_sheet m h) ≡ sheet_words
hull_long m h k l = part_length m (hull_sheet_at h) sheet_words (omega arith)

pub draft_long : (m : List ℕ) (d : ℕ) → Sized m → d < desks → length (draft_sheet m d) ≡ sheet_words
draft_long m d k l = part_length m (draft_sheet_at d) sheet_words (omega arith)

-- a weight and its sheet are one run of words
pub hull_run : (m : List ℕ) (h : ℕ)
    → Sized m
    → h < most_hulls
    → part m (hull_weight_at h) weighed_words ≡ hull_weight m h ∷ hull_sheet m h
hull_run m h k l =
    let n : suc (hull_weight_at h) ≡ hull_sheet_at h = omega arith in
    rw (part_first m (hull_weight_at h) sheet_words (omega arith), n) refl

pub draft_run : (m : List ℕ) (d : ℕ)
    → Sized m
    → d < desks
    → part m (draft_weight_at d) weighed_words ≡ draft_weight m d ∷ draft_sheet m d
draft_run m d k l =
    let n : suc (draft_weight_at d) ≡ draft_sheet_at d = omega arith in
    rw (part_first m (draft_weight_at d) sheet_words (omega arith), n) refl

-- hull i, and desk d, are in o as they were in m
pub record SameHull (o m : List ℕ) (i : ℕ) : Type 0 where
  pub number : edit o i ≡ edit m i
  pub weight : hull_weight o i ≡ hull_weight m i
  pub sheet : hull_sheet o i ≡ hull_sheet m i

pub record SameDraft (o m : List ℕ) (d : ℕ) : Type 0 where
  pub holds : held o d ≡ held m d
  pub hull : draft_hull o d ≡ draft_hull m d
  pub opened : opening o d ≡ opening m d
  pub weight : draft_weight o d ≡ draft_weight m d
  pub sheet : draft_sheet o d ≡ draft_sheet m d

-- ---- a write leaves the places of P, and two writes those that both leave

pub record Leaves (o m : List ℕ) (P : ℕ → Type 0) : Type 0 where
  pub size : Sized m
  pub same_size : Sized o
  pub word : (k : ℕ) → P k → get_or o k 0 ≡ get_or m k 0

pub leaves : (m : List ℕ) (at : ℕ) (xs : List ℕ) → Sized m → Leaves (sets m at xs) m (Outside at (length xs))
leaves m at xs h =
    record { size = h; same_size = length-sets m at xs ∙ h; word = λ k o. word_outside m at xs k o }

pub leaves_both : {o p m : List ℕ} {P Q : ℕ → Type 0} → Leaves o p P → Leaves p m Q → Leaves o m (λ k. P k × Q k)
leaves_both a b =
    record { size = b.size; same_size = a.same_size; word = λ k l. a.word k l.0 ∙ b.word k l.1 }

module _ {o m : List ℕ} {P : ℕ → Type 0} (w : Leaves o m P) where
  -- it leaves the n words from a on
  abbrev pub LeavesFrom : ℕ → ℕ → Type 0
  LeavesFrom a n = (k : ℕ) → a ≤ k → k < a + n → P k

  pub kept_part :
      (a : ℕ)
      → a + sheet_words ≤ register_words
      → LeavesFrom a sheet_words
      → part o a sheet_words ≡ part m a sheet_words
  kept_part a l b =
      part_same o m a sheet_words (omega (arith, w.same_size)) (omega (arith, w.size))
      (λ (j : ℕ) (h : j < sheet_words). w.word (a + j) (b (a + j) (omega arith) (omega arith)))

  pub kept_hull : (i : ℕ) → i < most_hulls → LeavesFrom (hull_at i) hull_words → SameHull o m i
  kept_hull i l b =
      record {
        number = w.word (edit_at i) (b (edit_at i) (omega arith) (omega arith));
        weight = w.word (hull_weight_at i) (b (hull_weight_at i) (omega arith) (omega arith));
        sheet = kept_part (hull_sheet_at i) (omega arith) (λ k x y. b k (omega arith) (omega arith));
      }

  pub kept_draft : (d : ℕ) → d < desks → LeavesFrom (draft_at d) draft_words → SameDraft o m d
  kept_draft d l b =
      record {
        holds = w.word (held_at d) (b (held_at d) (omega arith) (omega arith));
        hull = w.word (draft_hull_at d) (b (draft_hull_at d) (omega arith) (omega arith));
        opened = w.word (opening_at d) (b (opening_at d) (omega arith) (omega arith));
        weight = w.word (draft_weight_at d) (b (draft_weight_at d) (omega arith) (omega arith));
        sheet = kept_part (draft_sheet_at d) (omega arith) (λ k x y. b k (omega arith) (omega arith));
      }
