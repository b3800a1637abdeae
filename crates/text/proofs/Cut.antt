-- A text cut after each line feed: its lines make it up, and each has one line feed, at its end, but the last.
use mathlib.Core.Path.{◌≡◌, refl, ◌∙◌}
use mathlib.Core.Logic.{◌≢◌}
use mathlib.Core.List.{List, [], ◌∷◌, ◌++◌, append_assoc}
use Prim.Native.Nat.{ℕ, zero, suc, ◌+◌, ◌-◌, ◌≤◌, ◌<◌}
use native.Mathlib.Omega.{arith}
use borrow.Author.Tests.{ne_eqb}
use lib.ListN.{length, get_or, length-append}
use Rattle.ground.proofs.Booleans.{by_equal}
use Rattle.text.specs.Quoted.{feed}
use Rattle.text.specs.Place.{feeds, cut_from, cut_lines, joined}
use Rattle.text.proofs.Place.{feeds_none, feeds_feed, feeds_other, feeds_append, free_head}

-- the line number n, from 1
abbrev pub nth_line : List ℕ → ℕ → List ℕ
nth_line t n = get_or (cut_lines t) (n - 1) []

pub less_one : (n : ℕ) → 1 + n - 1 ≡ n
less_one n = omega arith

-- ---- a byte more

pub cut_none : (x : List ℕ) → cut_from x [] ≡ x ∷ []
unfolding cut_from
cut_none x = refl

pub cut_feed : (x t : List ℕ) → cut_from x (feed ∷ t) ≡ (x ++ (feed ∷ [])) ∷ cut_from [] t
unfolding cut_from
cut_feed x t = refl

pub cut_other : (x : List ℕ) (b : ℕ) (t : List ℕ) → b ≢ feed → cut_from x (b ∷ t) ≡ cut_from (x ++ (b ∷ [])) t
unfolding cut_from
cut_other x b t n = rw (ne_eqb b feed n, cut_from) refl

pub one_more : (x : List ℕ) (b : ℕ) → length (x ++ (b ∷ [])) ≡ suc (length x)
one_more x b = omega (arith, length-append x (b ∷ []))

-- ---- the lines make up the text

joined_from : (x t : List ℕ) → joined (cut_from x t) ≡ x ++ t
joined_from x [] = rw (cut_none x) refl
joined_from x (b ∷ t) =
    let h = joined_from [] t in
    let g = joined_from (x ++ (b ∷ [])) t in
    by_equal b feed (λ e. rw (e, cut_feed x t, h) (append_assoc x (feed ∷ []) t))
    (λ n. rw (cut_other x b t n) (g ∙ append_assoc x (b ∷ []) t))

pub lines_join : (t : List ℕ) → joined (cut_lines t) ≡ t
lines_join t = joined_from [] t

-- ---- each has one line feed, at its end, but the last, which has none

pub record OneFeed (l : List ℕ) : Type 0 where
  pub before : List ℕ
  pub free : feeds before ≡ 0
  pub whole : l ≡ before ++ (feed ∷ [])

-- such a line, and then the rest
cut_before : (x before u : List ℕ) → feeds before ≡ 0
    → cut_from x (before ++ (feed ∷ u)) ≡ (x ++ (before ++ (feed ∷ []))) ∷ cut_lines u
cut_before x [] u h = cut_feed x u
cut_before x (b ∷ before) u h =
    let f = free_head b before h in
    cut_other x b (before ++ (feed ∷ u)) f.0
    ∙ cut_before (x ++ (b ∷ [])) before u f.1
    ∙ rw (append_assoc x (b ∷ []) (before ++ (feed ∷ [])))

pub cut_lined : (x u : List ℕ) → OneFeed x → cut_lines (x ++ u) ≡ x ∷ cut_lines u
cut_lined x u o =
    rw (o.whole, append_assoc o.before (feed ∷ []) u) (cut_before [] o.before u o.free)

none_more : (x : List ℕ) (b : ℕ) → feeds x ≡ 0 → b ≢ feed → feeds (x ++ (b ∷ [])) ≡ 0
none_more x b z n = omega (arith, z, feeds_append x (b ∷ []), feeds_other b [] n, feeds_none)

count_from : (x t : List ℕ) → length (cut_from x t) ≡ suc (feeds t)
count_from x [] = rw (cut_none x, feeds_none) refl
count_from x (b ∷ t) =
    let h = count_from [] t in
    let g = count_from (x ++ (b ∷ [])) t in
    by_equal b feed (λ e. rw (e, cut_feed x t, feeds_feed t, h) refl)
    (λ n. rw (cut_other x b t n, feeds_other b t n) g)

pub lines_count : (t : List ℕ) → length (cut_lines t) ≡ 1 + feeds t
lines_count t = omega (arith, count_from [] t)

ended_from : (x t : List ℕ) → feeds x ≡ 0 → (i : ℕ) → i < feeds t → OneFeed (get_or (cut_from x t) i [])
ended_from x [] z i h = absurd (omega (arith, h, feeds_none))
ended_from x (b ∷ t) z zero h =
    by_equal b feed (λ e. rw (e, cut_feed x t) (record { before = x; free = z; whole = refl }))
    (λ n. rw (cut_other x b t n) (ended_from (x ++ (b ∷ [])) t (none_more x b z n) zero (rw (feeds_other b t n) at h)))
ended_from x (b ∷ t) z (suc i) h =
    by_equal b feed
    (λ e. rw (e, cut_feed x t) (ended_from [] t feeds_none i (omega (arith, feeds_feed t, rw e at h))))
    (λ n. rw (cut_other x b t n)
    (ended_from (x ++ (b ∷ [])) t (none_more x b z n) (suc i) (rw (feeds_other b t n) at h)))

last_from : (x t : List ℕ) → feeds x ≡ 0 → feeds (get_or (cut_from x t) (feeds t) []) ≡ 0
last_from x [] z = rw (feeds_none, cut_none x) z
last_from x (b ∷ t) z =
    let h = last_from [] t feeds_none in
    by_equal b feed (λ e. rw (e, feeds_feed t, cut_feed x t) h)
    (λ n. rw (feeds_other b t n, cut_other x b t n) (last_from (x ++ (b ∷ [])) t (none_more x b z n)))

pub lines_ended : (t : List ℕ) (n : ℕ) → 1 ≤ n → n < length (cut_lines t) → OneFeed (nth_line t n)
lines_ended t n l h = ended_from [] t feeds_none (n - 1) (omega (arith, l, h, lines_count t))

pub last_free : (t : List ℕ) → feeds (nth_line t (length (cut_lines t))) ≡ 0
last_free t = rw (lines_count t, less_one (feeds t)) (last_from [] t feeds_none)
