-- Line and byte of a place, byte by byte: where they begin, how they go on, and how far they reach.
use mathlib.Core.Path.{◌≡◌, refl, sym, ap, ◌∙◌}
use mathlib.Core.Logic.{◌≢◌}
use mathlib.Core.List.{List, [], ◌∷◌, ◌++◌}
use Prim.Native.Nat.{ℕ, zero, suc, ◌+◌, ◌≤◌, ◌<◌}
use native.Mathlib.Numerals.{add-one}
use native.Mathlib.Omega.{arith}
use borrow.Author.Tests.{ne_eqb}
use lib.ListN.{length, take, get_or}
use lib.Seq.{take-suc}
use Rattle.ground.proofs.Booleans.{by_equal}
use Rattle.text.specs.Quoted.{feed}
use Rattle.text.specs.Place.{feeds, since_feed, line_at, byte_at}

-- ---- no byte, and a byte more in front

pub feeds_none : feeds [] ≡ 0
unfolding feeds
feeds_none = refl

pub feeds_feed : (t : List ℕ) → feeds (feed ∷ t) ≡ suc (feeds t)
unfolding feeds
feeds_feed t = refl

pub feeds_other : (b : ℕ) (t : List ℕ) → b ≢ feed → feeds (b ∷ t) ≡ feeds t
unfolding feeds
feeds_other b t n = rw (ne_eqb b feed n, feeds) refl

-- no line feed: neither is the first byte one, nor is there one after it
pub free_head : (b : ℕ) (t : List ℕ) → feeds (b ∷ t) ≡ 0 → (b ≢ feed) × (feeds t ≡ 0)
free_head b t z =
    by_equal b feed (λ e. absurd (omega (arith, rw (e, feeds_feed t) at z))) (λ n. (n, sym (feeds_other b t n) ∙ z))

pub since_none : (k : ℕ) → since_feed k [] ≡ k
unfolding since_feed
since_none k = refl

pub since_feed_lem : (k : ℕ) (t : List ℕ) → since_feed k (feed ∷ t) ≡ since_feed 0 t
unfolding since_feed
since_feed_lem k t = refl

pub since_other : (k b : ℕ) (t : List ℕ) → b ≢ feed → since_feed k (b ∷ t) ≡ since_feed (suc k) t
unfolding since_feed
since_other k b t n = rw (ne_eqb b feed n, since_feed) refl

-- ---- more bytes at the end

pub feeds_append : (x y : List ℕ) → feeds (x ++ y) ≡ feeds x + feeds y
feeds_append [] y = omega (arith, feeds_none)
feeds_append (c ∷ x) y =
    let h = feeds_append x y in
    by_equal c feed (λ e. rw e (omega (arith, h, feeds_feed (x ++ y), feeds_feed x)))
    (λ n. omega (arith, h, feeds_other c (x ++ y) n, feeds_other c x n))

pub since_end_feed : (k : ℕ) (x : List ℕ) → since_feed k (x ++ (feed ∷ [])) ≡ 0
since_end_feed k [] = since_feed_lem k [] ∙ since_none 0
since_end_feed k (c ∷ x) =
    let h = since_end_feed 0 x in
    let g = since_end_feed (suc k) x in
    by_equal c feed (λ e. rw e (since_feed_lem k (x ++ (feed ∷ [])) ∙ h))
    (λ n. since_other k c (x ++ (feed ∷ [])) n ∙ g)

pub since_end_other : (k : ℕ) (x : List ℕ) (b : ℕ) → b ≢ feed → since_feed k (x ++ (b ∷ [])) ≡ suc (since_feed k x)
since_end_other k [] b n = omega (arith, since_other k b [] n, since_none (suc k), since_none k)
since_end_other k (c ∷ x) b n =
    let h = since_end_other 0 x b n in
    let g = since_end_other (suc k) x b n in
    by_equal c feed (λ e. rw e (omega (arith, h, since_feed_lem k (x ++ (b ∷ [])), since_feed_lem k x)))
    (λ m. omega (arith, g, since_other k c (x ++ (b ∷ [])) m, since_other k c x m))

-- ---- the place at the top, and from one place to the next

pub line_top : (t : List ℕ) → line_at t 0 ≡ 1
line_top t = omega (arith, feeds_none)

pub byte_top : (t : List ℕ) → byte_at t 0 ≡ 1
byte_top t = omega (arith, since_none 0)

module _ (t : List ℕ) (i : ℕ) (h : i < length t) where
  next : (b : ℕ) → get_or t i 0 ≡ b → take (i + 1) t ≡ take i t ++ (b ∷ [])
  next b e = rw (← e, add-one i) (take-suc t i 0 h)

  pub line_feed : get_or t i 0 ≡ feed → line_at t (i + 1) ≡ line_at t i + 1
  line_feed e =
      omega (arith, ap feeds (next feed e), feeds_append (take i t) (feed ∷ []), feeds_feed [], feeds_none)

  pub line_other : get_or t i 0 ≢ feed → line_at t (i + 1) ≡ line_at t i
  line_other n =
      let b = get_or t i 0 in
      omega (arith, ap feeds (next b refl), feeds_append (take i t) (b ∷ []), feeds_other b [] n, feeds_none)

  pub byte_feed : get_or t i 0 ≡ feed → byte_at t (i + 1) ≡ 1
  byte_feed e = omega (arith, ap (since_feed 0) (next feed e), since_end_feed 0 (take i t))

  pub byte_other : get_or t i 0 ≢ feed → byte_at t (i + 1) ≡ byte_at t i + 1
  byte_other n =
      omega (arith, ap (since_feed 0) (next (get_or t i 0) refl), since_end_other 0 (take i t) (get_or t i 0) n)

-- ---- both are from 1, and neither is past the number of bytes before the place by more than that

feeds_most : (k : ℕ) (t : List ℕ) → feeds (take k t) ≤ k
feeds_most zero t = omega (arith, feeds_none)
feeds_most (suc k) [] = omega (arith, feeds_none)
feeds_most (suc k) (b ∷ t) =
    let h = feeds_most k t in
    by_equal b feed (λ e. rw e (omega (arith, h, feeds_feed (take k t))))
    (λ n. omega (arith, h, feeds_other b (take k t) n))

since_most : (n k : ℕ) (t : List ℕ) → since_feed n (take k t) ≤ n + k
since_most n zero t = omega (arith, since_none n)
since_most n (suc k) [] = omega (arith, since_none n)
since_most n (suc k) (b ∷ t) =
    let h = since_most 0 k t in
    let g = since_most (suc n) k t in
    by_equal b feed (λ e. rw e (omega (arith, h, since_feed_lem n (take k t))))
    (λ m. omega (arith, g, since_other n b (take k t) m))

pub line_bounds : (t : List ℕ) (k : ℕ) → (1 ≤ line_at t k) × (line_at t k ≤ k + 1)
line_bounds t k = (omega arith, omega (arith, feeds_most k t))

pub byte_bounds : (t : List ℕ) (k : ℕ) → (1 ≤ byte_at t k) × (byte_at t k ≤ k + 1)
byte_bounds t k = (omega arith, omega (arith, since_most 0 k t))
