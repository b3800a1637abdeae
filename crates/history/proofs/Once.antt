-- Every call of the serial list is one of the history, and stands there once: of any list of events.
use Prim.Native.Nat.{ℕ, zero, suc, ◌+◌, ◌≤◌, ◌<◌}
use native.Mathlib.Omega.{arith}
use native.Mathlib.Nat.{le_refl}
use mathlib.Core.Path.{◌≡◌, refl}
use mathlib.Core.Bool.{Bool, false}
use mathlib.Core.List.{List, [], ◌∷◌, ◌++◌}
use lib.Dec.{eqb}
use borrow.Author.Tests.{ne_eqb}
use Rattle.ground.proofs.Booleans.{by_less, by_test}
use Rattle.register.specs.Calls.{Ask, new_hull, open_hull, work, save, drop_draft, ask}
use Rattle.history.specs.Replies.{Reply, accepted}
use Rattle.history.specs.Runs.{Event, ◌⇒◌}
use Rattle.history.specs.History.{Role, its_open, its_call, its_end, elsewhere, role, block, spot, serial}
use Rattle.history.proofs.Tools.{self}

-- ---- whatever events weigh, the serial list weighs no more than the history

unfoldable pub weight : (Event → ℕ) → List Event → ℕ
weight w [] = 0
weight w (e ∷ es) = w e + weight w es

weight_append : (w : Event → ℕ) (a b : List Event) → weight w (a ++ b) ≡ weight w a + weight w b
unfolding weight
weight_append w [] b = omega arith
weight_append w (e ∷ a) b = let h = weight_append w a b in omega arith

sum_below : (ℕ → ℕ) → ℕ → ℕ
sum_below f zero = 0
sum_below f (suc n) = sum_below f n + f n

sum_more : (f : ℕ → ℕ) (n j : ℕ) → sum_below f n ≤ sum_below f (n + j)
unfolding sum_below
sum_more f n zero = let e : n + 0 ≡ n = omega arith in rw e (le_refl _)
sum_more f n (suc j) = let h = sum_more f n j in let e : n + suc j ≡ suc (n + j) = omega arith in rw e (omega arith)

-- k is f but for desk g
module _ (f k : ℕ → ℕ) (g : ℕ) (other : (d : ℕ) → eqb d g ≡ false → k d ≡ f d) where
  sum_before : (n : ℕ) → n ≤ g → sum_below k n ≡ sum_below f n
  unfolding sum_below
  sum_before zero l = refl
  sum_before (suc n) l =
      let a = sum_before n (omega arith) in let b = other n (ne_eqb n g (λ e. omega arith)) in omega arith

  sum_beyond : (n : ℕ) → g < n → sum_below k n + f g ≡ sum_below f n + k g
  unfolding sum_below
  sum_beyond zero l = absurd (omega arith)
  sum_beyond (suc n) l =
      by_less g n
      (λ p. let a = sum_beyond n p in let b = other n (ne_eqb n g (λ e. omega arith)) in omega arith)
      (λ p. let a = sum_before n p in let e : n ≡ g = omega arith in rw e (let b = rw e at a in omega arith))

  sum_grows : (c n : ℕ) → k g ≤ c + f g → sum_below k n ≤ c + sum_below f n
  sum_grows c n l =
      by_less g n (λ p. let a = sum_beyond n p in omega arith) (λ p. let a = sum_before n p in omega arith)

module _ (kept : Ask → Bool) (w : Event → ℕ) where
  -- what the desks' blocks weigh
  held : List Event → ℕ → ℕ
  held past d = weight w (block d past)

  -- an event adds no more than itself to a block
  weigh : (d : ℕ) (e : Event) (past : List Event) → held (e ∷ past) d ≤ w e + held past d
  unfolding held weight block
  weigh d e past = go (role d e) refl
    where
      go : (s : Role) → role d e ≡ s → weight w (block d (e ∷ past)) ≤ w e + weight w (block d past)
      go its_open p = rw (p, block) (omega arith)
      go its_call p = rw (p, block) (omega arith)
      go its_end p = rw (p, block) (omega arith)
      go elsewhere p = rw (p, block) (omega arith)

  -- and where it is desk g's, to no block but that one
  grows : (e : Event) (g : ℕ) (past : List Event) (n : ℕ)
      → ((d : ℕ) → eqb d g ≡ false → role d e ≡ elsewhere)
      → sum_below (held (e ∷ past)) n ≤ w e + sum_below (held past) n
  unfolding held block
  grows e g past n o =
      sum_grows (held past) (held (e ∷ past)) g (λ d p. rw (o d p, block)) (w e) n (weigh g e past)

  -- the serial list, and the blocks of the desks below n
  Within : List Event → ℕ → Type 0
  Within past n = weight w (serial kept past) + sum_below (held past) n ≤ weight w past

  -- a save, by whether it was accepted
  saved_within : (g : ℕ) (r : Reply) (past : List Event) (n : ℕ)
      → ((j : ℕ) → Within past j)
      → Within ((save g ⇒ r) ∷ past) n
  unfolding Within held weight serial block role spot
  saved_within g r past n h =
      by_test (accepted r)
      (λ e.
      let k : ℕ → ℕ = held ((save g ⇒ r) ∷ past) in
      let z : k g ≡ 0 = rw (self, e, block) in
      let a = sum_beyond (held past) k g (λ d o. rw (o, block)) (n + suc g) (omega arith) in
      let q : weight w (serial kept ((save g ⇒ r) ∷ past))
      ≡ w (save g ⇒ r) + weight w (block g past ++ serial kept past) = rw (e, serial) in
      omega (arith, sum_more k n (suc g), weight_append w (block g past) (serial kept past), h (n + suc g)))
      (λ e.
      let a = grows (save g ⇒ r) g past n (λ d o. rw o) in
      let q : weight w (serial kept ((save g ⇒ r) ∷ past)) ≡ weight w (serial kept past) = rw (e, serial) in
      omega (arith, h n))

  within : (past : List Event) (n : ℕ) → Within past n
  unfolding Within held weight serial block role spot sum_below
  within [] zero = omega arith
  within [] (suc n) = omega (arith, within [] n)
  within ((new_hull t ⇒ r) ∷ past) n = omega (arith, within past n)
  within ((open_hull g k ⇒ r) ∷ past) n = omega (arith, within past n, grows (open_hull g k ⇒ r) g past n (λ d o. rw o))
  within ((work g x ⇒ r) ∷ past) n = omega (arith, within past n, grows (work g x ⇒ r) g past n (λ d o. rw o))
  within ((save g ⇒ r) ∷ past) n = saved_within g r past n (within past)
  within ((drop_draft g ⇒ r) ∷ past) n = omega (arith, within past n, grows (drop_draft g ⇒ r) g past n (λ d o. rw o))
  within ((ask h q ⇒ r) ∷ past) n =
      by_test (kept q) (λ t. rw (t, serial) (omega (arith, within past n)))
      (λ t. rw (t, serial) (omega (arith, within past n)))

  -- Each call of a history is taken at most once.
  pub once : (past : List Event) → weight w (serial kept past) ≤ weight w past
  unfolding Within
  once past = omega (arith, within past 0)
