-- Runs of stores into a lent slice, `sets` of lib.Seq, where what would go past the end is dropped.
use mathlib.Core.Path.{◌≡◌, refl, sym, ap, ◌∙◌}
use mathlib.Core.List.{List, [], ◌∷◌, ◌++◌, append-nil, append_assoc}
use Prim.Native.Nat.{ℕ, suc, ◌+◌, ◌-◌, ◌≤◌, ◌<◌, min}
use native.Mathlib.Nat.{add-zero, zero-add, add-suc, suc-add}
use native.Mathlib.Omega.{arith}
use native.Mathlib.Numerals.{add-one}
use lib.ListN.{length, get_or, take, drop, set, replicate, length-append, length-drop, length-replicate}
use lib.ListN.{replicate-append-replicate, take-append-drop, drop_of_length-le}
use Rattle.std.proofs.lemmas.List.{drop-replicate}
use lib.Seq.{sets, sets-eq, drop-cons, take_all, set_out, length-take-le, take-set-le}
use lib.Seq.{drop-set-add, length-sets, take-suc}
use Rattle.ground.proofs.Booleans.{by_less}

pub sets_append : (l : List ℕ) (i : ℕ) (xs ys : List ℕ) → sets l i (xs ++ ys) ≡ sets (sets l i xs) (i + length xs) ys
sets_append l i [] ys = rw add-zero
sets_append l i (x ∷ xs) ys = sets_append (set l i x) (suc i) xs ys ∙ rw (add-suc, ← suc-add)

-- one store more
pub sets_snoc : (l : List ℕ) (i : ℕ) (xs : List ℕ) (y : ℕ)
    → set (sets l i xs) (i + length xs) y ≡ sets l i (xs ++ (y ∷ []))
sets_snoc l i xs y = sym (sets_append l i xs (y ∷ []))

sets_out : (l : List ℕ) (i : ℕ) (xs : List ℕ) → length l ≤ i → sets l i xs ≡ l
sets_out l i [] h = refl
sets_out l i (x ∷ xs) h = rw (set_out l i x h) (sets_out l (suc i) xs (omega arith))

-- stores from past the end are stores from the end: none
pub sets_min : (l : List ℕ) (i : ℕ) (xs : List ℕ) → sets l (min i (length l)) xs ≡ sets l i xs
sets_min l i xs =
    by_less (length l) i
    (λ h. sets_out l (min i (length l)) xs (omega arith) ∙ sym (sets_out l i xs (omega arith)))
    (λ h.
    let m : min i (length l) ≡ i = omega arith in
    ap (λ (k : ℕ). sets l k xs) m)

-- the stores into the part from n on, seen from the whole; the part before them is as it was
pub drop_sets : (l : List ℕ) (n i : ℕ) (xs : List ℕ) → drop n (sets l (n + i) xs) ≡ sets (drop n l) i xs
drop_sets l n i [] = refl
drop_sets l n i (x ∷ xs) = rw (← add-suc n i) (drop_sets (set l (n + i) x) n (suc i) xs ∙ rw (drop-set-add n l i x))

pub take_sets : (l : List ℕ) (n i : ℕ) (xs : List ℕ) → n ≤ i → take n (sets l i xs) ≡ take n l
take_sets l n i [] h = refl
take_sets l n i (x ∷ xs) h = take_sets (set l i x) n (suc i) xs (omega arith) ∙ take-set-le n l i x h

-- a list stored from the start, with what stands after it
pub sets_start : (l xs : List ℕ) → length xs ≤ length l → sets l 0 xs ≡ xs ++ drop (length xs) l
sets_start l xs h = sets-eq xs l 0 (omega arith) ∙ rw (zero-add (length xs))

-- the first numbers of a list stored from the start, one by one
pub sets_more : (l xs : List ℕ) (i : ℕ) → i < length xs
    → set (sets l 0 (take i xs)) i (get_or xs i 0) ≡ sets l 0 (take (i + 1) xs)
sets_more l xs i h =
    let e : 0 + length (take i xs) ≡ i = omega (arith, length-take-le i xs (omega arith)) in
    rw (add-one i, take-suc xs i 0) (rw e at (sets_snoc l 0 (take i xs) (get_or xs i 0)))

-- as many as there is room for are the whole of it
pub sets_fit : (l xs : List ℕ) (n : ℕ) → min (length xs) (length l) ≤ n → sets l 0 (take n xs) ≡ sets l 0 xs
sets_fit l xs n e =
    by_less n (length xs)
    (λ h.
    let k : length (take n xs) ≡ n = length-take-le n xs (omega arith) in
    let o : length (sets l 0 (take n xs)) ≤ 0 + length (take n xs) = omega (arith, length-sets l 0 (take n xs)) in
    sym (sets_out (sets l 0 (take n xs)) (0 + length (take n xs)) (drop n xs) o)
    ∙ sym (sets_append l 0 (take n xs) (drop n xs))
    ∙ ap (sets l 0) (take-append-drop n xs))
    (λ h. ap (sets l 0) (take_all n xs h))

-- ---- parts, as the code lends them

-- the element at k, and those after it
pub drop_more : (l : List ℕ) (k : ℕ) → k < length l → drop k l ≡ get_or l k 0 ∷ drop (k + 1) l
drop_more l k h = rw (add-one k, drop-cons l k 0)

-- the part of t from a on
pub rest_part : (t : List ℕ) (a : ℕ) → take (length t - a) (drop a t) ≡ drop a t
rest_part t a = take_all (length t - a) (drop a t) (omega (arith, length-drop a t))

-- the whole o, when its part from a on comes back as ys
abbrev pub put_back : List ℕ → ℕ → List ℕ → List ℕ
put_back o a ys = take a o ++ (ys ++ drop (length o - a) (drop a o))

-- what comes back of a `&mut` part from a on, when bs were stored from its start
pub part_sets : (o : List ℕ) (a : ℕ) (bs : List ℕ) → put_back o a (sets (drop a o) 0 bs) ≡ sets o a bs
part_sets o a bs =
    let e : drop (length o - a) (drop a o) ≡ [] =
    drop_of_length-le (drop a o) {i = length o - a} (omega (arith, length-drop a o)) in
    let d : drop a (sets o a bs) ≡ sets (drop a o) 0 bs =
    ap (λ (k : ℕ). drop a (sets o k bs)) (sym (add-zero a)) ∙ drop_sets o a 0 bs in
    let h : a ≤ a = omega arith in
    rw (e, append-nil, ← d, ← take_sets o a a bs h, take-append-drop)

-- ---- stores into a list of zeros

pub sets_zeros : (m : ℕ) (xs : List ℕ) → length xs ≤ m → sets (replicate m 0) 0 xs ≡ xs ++ replicate (m - length xs) 0
sets_zeros m xs h =
    let n : length {A = ℕ} (replicate m 0) ≡ m = length-replicate m 0 in
    sets_start (replicate m 0) xs (omega arith) ∙ rw (drop-replicate {X = ℕ} (length xs) m 0)

-- zeros stored over zeros
pub zeros_stored : (m j : ℕ) (xs : List ℕ)
    → length xs + j ≤ m
    → sets (replicate m 0) 0 (xs ++ replicate j 0) ≡ sets (replicate m 0) 0 xs
zeros_stored m j xs h =
    let n : length (xs ++ replicate j 0) ≡ length xs + j =
    length-append xs (replicate j 0) ∙ rw (length-replicate {A = ℕ} j 0) in
    let k : j + (m - (length xs + j)) ≡ m - length xs = omega arith in
    sets_zeros m (xs ++ replicate j 0) (omega arith)
    ∙ rw (n, append_assoc, replicate-append-replicate, k) (sym (sets_zeros m xs (omega arith)))
