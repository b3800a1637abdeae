-- Words and parts of the memory: what stands in one after a write there, and that a write elsewhere leaves a word.
use mathlib.Core.Path.{◌≡◌, refl, sym, ap, ◌∙◌}
use mathlib.Core.List.{List, [], ◌∷◌, ◌++◌, append_assoc}
use Prim.Native.Nat.{ℕ, zero, suc, ◌+◌, ◌≤◌, ◌<◌}
use native.Mathlib.Nat.{add-zero}
use native.Mathlib.Omega.{arith}
use lib.ListN.{length, get_or, set, take, drop, replicate, length-drop, get_or-append}
use lib.Seq.{sets, sets-eq, length-sets, length-take-le, take_at, drop_at, take-set-lt, drop-set-add}
use lib.Seq.{drop-cons, get_or-take, get_or-drop, get_or-set_same, get_or-set_other, set_comm, ext_get_or}
use Rattle.ground.proofs.Stores.{sets_append}
use Rattle.memory.specs.Layout.{part}

-- k is none of the n words from at on
abbrev pub Outside : ℕ → ℕ → ℕ → Type 0
Outside at n k = at ≤ k → k < at + n → ⊥

-- ---- words after a write

pub word_outside :
    (l : List ℕ) (at : ℕ) (xs : List ℕ) (k : ℕ)
    → Outside at (length xs) k
    → get_or (sets l at xs) k 0 ≡ get_or l k 0
word_outside l at [] k o = refl
word_outside l at (x ∷ xs) k o =
    word_outside (set l at x) (suc at) xs k (λ a b. o (omega arith) (omega arith))
    ∙ get_or-set_other l at k x 0 (λ e. o (omega arith) (omega arith))

pub word_first : (l : List ℕ) (at x : ℕ) (xs : List ℕ) → at < length l → get_or (sets l at (x ∷ xs)) at 0 ≡ x
word_first l at x xs h = word_outside (set l at x) (suc at) xs at (λ a b. omega arith) ∙ get_or-set_same l at x 0 h

module _ (l : List ℕ) (at : ℕ) (xs : List ℕ) where
  -- from its place on: what was written, and then what stood there
  drop_written : at + length xs ≤ length l → drop at (sets l at xs) ≡ xs ++ drop (at + length xs) l
  drop_written h =
      let d : List ℕ = drop (at + length xs) l in
      rw (sets-eq xs l at h, append_assoc (take at l) xs d)
      (drop_at (take at l) (xs ++ d) at (length-take-le at l (omega arith)))

  -- word j of them, which stands at k
  pub word_inside :
      (j : ℕ) {k : ℕ}
      → k ≡ at + j
      → at + length xs ≤ length l
      → j < length xs
      → get_or (sets l at xs) k 0 ≡ get_or xs j 0
  word_inside j q h n =
      rw (q, ← get_or-drop at (sets l at xs) j 0, drop_written h) (get_or-append xs (drop (at + length xs) l) 0 j n)

  -- a part that was written
  pub part_written : {n : ℕ} → length xs ≡ n → at + n ≤ length l → part (sets l at xs) at n ≡ xs
  part_written {n} q h = rw (drop_written (omega arith)) (take_at xs (drop (at + length xs) l) n q)

-- and one that was written after other words
pub part_after :
    (m : List ℕ) (at : ℕ) (ws xs : List ℕ) (p : ℕ) {n : ℕ}
    → p ≡ at + length ws
    → length xs ≡ n
    → p + n ≤ length m
    → part (sets m at (ws ++ xs)) p n ≡ xs
part_after m at ws xs p e q h =
    let n = length-sets m at ws in
    rw (e, sets_append m at ws xs) (part_written (sets m at ws) (at + length ws) xs q (omega arith))

-- a word before a write may be set before it or after it
set_before : (l : List ℕ) (at : ℕ) (xs : List ℕ) (k v : ℕ) → k < at → set (sets l at xs) k v ≡ sets (set l k v) at xs
set_before l at [] k v h = refl
set_before l at (x ∷ xs) k v h =
    set_before (set l at x) (suc at) xs k v (omega arith)
    ∙ ap (λ (m : List ℕ). sets m (suc at) xs) (set_comm l at k x v (λ e. omega arith))

-- and so may the words that come to stand just before it
pub sets_before : (l : List ℕ) (a : ℕ) (ws xs : List ℕ) → sets (sets l (a + length ws) xs) a ws ≡ sets l a (ws ++ xs)
sets_before m at [] xs = rw (add-zero at) refl
sets_before m at (w ∷ ws) xs =
    let n : at + suc (length ws) ≡ suc at + length ws = omega arith in
    rw (set_before m (at + suc (length ws)) xs at w (omega arith), n) (sets_before (set m at w) (suc at) ws xs)

-- ---- parts

pub part_length : (m : List ℕ) (at n : ℕ) → at + n ≤ length m → length (part m at n) ≡ n
part_length m at n h = length-take-le n (drop at m) (simp length-drop (omega arith))

pub part_word : (m : List ℕ) (at n j : ℕ) → j < n → get_or (part m at n) j 0 ≡ get_or m (at + j) 0
part_word m at n j h = get_or-take n (drop at m) j 0 h ∙ get_or-drop at m j 0

-- the first of them, and the others
pub part_first : (m : List ℕ) (at n : ℕ) → at < length m → part m at (suc n) ≡ get_or m at 0 ∷ part m (suc at) n
part_first m at n h = rw (drop-cons m at 0 h) refl

-- the same words at the same place in two memories
pub part_same :
    (o m : List ℕ) (at n : ℕ)
    → at + n ≤ length o
    → at + n ≤ length m
    → ((j : ℕ) → j < n → get_or o (at + j) 0 ≡ get_or m (at + j) 0)
    → part o at n ≡ part m at n
part_same o m at n h k e =
    let q = part_length o at n h in
    ext_get_or 0 (part o at n) (part m at n) (q ∙ sym (part_length m at n k)) (λ (j : ℕ) (l : j < length (part o at n)).
    let i : j < n = omega arith in part_word o at n j i ∙ e j i ∙ sym (part_word m at n j i))

-- a part with one word set, and with several
part_set : (m : List ℕ) (at n j w : ℕ) → j < n → part (set m (at + j) w) at n ≡ set (part m at n) j w
part_set m at n j w l = ap (take n) (drop-set-add at m j w) ∙ take-set-lt n (drop at m) j w l

pub part_sets :
    (m : List ℕ) (at n j : ℕ) (xs : List ℕ)
    → j + length xs ≤ n
    → part (sets m (at + j) xs) at n ≡ sets (part m at n) j xs
part_sets m at n j [] h = refl
part_sets m at n j (x ∷ xs) h =
    let e : suc (at + j) ≡ at + suc j = omega arith in
    rw (e, part_sets (set m (at + j) x) at n (suc j) xs (omega arith), part_set m at n j x (omega arith))

-- ---- a write word by word, of the words of a part

-- a word of zeros, or past their end
pub zero_word : (n k : ℕ) → ◌≡◌ {A = ℕ} (get_or (replicate n 0) k 0) 0
zero_word zero k = refl
zero_word (suc n) zero = refl
zero_word (suc n) (suc k) = zero_word n k
