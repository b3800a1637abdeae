-- A text's first line: it begins as the text does, and after the first lines stand the others.
use mathlib.Core.Path.{◌≡◌, refl, sym, ap, ◌∙◌}
use mathlib.Core.Logic.{◌≢◌}
use mathlib.Core.Bool.{◌||◌}
use mathlib.Core.List.{List, [], ◌∷◌, ◌++◌, append_assoc}
use Prim.Native.Nat.{ℕ, zero, suc, ◌+◌, ◌≤◌, ◌<◌}
use native.Mathlib.Numerals.{add-one}
use native.Mathlib.Omega.{arith}
use borrow.Author.Tests.{ne_eqb}
use lib.Dec.{eqb}
use lib.ListN.{length, take, drop, get_or, length-append}
use lib.Seq.{drop-drop, drop-append_seam, take-append_seam, take-suc, split_at}
use Rattle.ground.proofs.Booleans.{by_test, by_equal}
use Rattle.text.specs.Quoted.{tab, feed}
use Rattle.text.specs.Field.{field_of, begins, agreed}
use Rattle.text.specs.Place.{feeds, first_line, after_lines}
use Rattle.text.proofs.Field.{field_stop, field_more}
use Rattle.text.proofs.Place.{free_head}
use Rattle.text.proofs.Cut.{OneFeed}

-- ---- a byte more in front

pub first_none : first_line [] ≡ []
unfolding first_line
first_none = refl

pub first_feed : (t : List ℕ) → first_line (feed ∷ t) ≡ feed ∷ []
unfolding first_line
first_feed t = refl

pub first_other : (b : ℕ) (t : List ℕ) → b ≢ feed → first_line (b ∷ t) ≡ b ∷ first_line t
unfolding first_line
first_other b t n = rw (ne_eqb b feed n, first_line)

-- ---- a line more passed over

pub after_none : (t : List ℕ) → after_lines 0 t ≡ t
unfolding after_lines
after_none t = refl

-- the first line of what is left
after_next : (n : ℕ) (t : List ℕ)
    → after_lines (suc n) t ≡ drop (length (first_line (after_lines n t))) (after_lines n t)
unfolding after_lines
after_next zero t = refl
after_next (suc n) t = after_next n (drop (length (first_line t)) t)

pub after_step : (t : List ℕ) (n at : ℕ) → drop at t ≡ after_lines n t
    → drop (at + length (first_line (drop at t))) t ≡ after_lines (n + 1) t
after_step t n at e = sym (drop-drop (length (first_line (drop at t))) at t) ∙ rw (e, add-one n, after_next n t)

-- ---- a line, and then the rest

first_before : (x u : List ℕ) → feeds x ≡ 0 → first_line (x ++ (feed ∷ u)) ≡ x ++ (feed ∷ [])
first_before [] u z = first_feed u
first_before (b ∷ x) u z =
    let f = free_head b x z in
    rw (first_other b (x ++ (feed ∷ u)) f.0, first_before x u f.1)

pub first_lined : (x u : List ℕ) → OneFeed x → first_line (x ++ u) ≡ x
first_lined x u o =
    rw (o.whole, append_assoc o.before (feed ∷ []) u) (first_before o.before u o.free)

pub after_lined : (n : ℕ) (x u : List ℕ) → OneFeed x → after_lines (suc n) (x ++ u) ≡ after_lines n u
unfolding after_lines
after_lined n x u o = rw (first_lined x u o, drop-append_seam x u)

-- ---- all of a text without a line feed, or up to the first

pub first_whole : (t : List ℕ) → feeds t ≡ 0 → first_line t ≡ t
first_whole [] z = first_none
first_whole (b ∷ t) z =
    let f = free_head b t z in
    rw (first_other b t f.0, first_whole t f.1)

pub first_ends : (t : List ℕ) (i : ℕ) → i < length t → feeds (take i t) ≡ 0 → get_or t i 0 ≡ feed
    → take (i + 1) t ≡ first_line t
first_ends t i h z e =
    let x : List ℕ = take i t in
    let u : List ℕ = drop (suc i) t in
    let s : t ≡ x ++ (feed ∷ u) = rw e at (split_at t i 0 h) in
    let a : take (suc i) t ≡ x ++ (feed ∷ []) = rw e at (take-suc t i 0 h) in
    rw (add-one i) (a ∙ sym (ap first_line s ∙ first_before x u z))

-- ---- it is the text's beginning

pub first_split : (t : List ℕ) → first_line t ++ drop (length (first_line t)) t ≡ t
first_split [] = rw first_none
first_split (b ∷ t) =
    by_equal b feed (λ e. rw (e, first_feed t))
    (λ n. rw (first_other b t n) (ap (λ (l : List ℕ). b ∷ l) (first_split t)))

pub first_fits : (t : List ℕ) → length (first_line t) ≤ length t
first_fits t = omega (arith, length-append (first_line t) (drop (length (first_line t)) t), ap length (first_split t))

pub first_take : (t : List ℕ) → first_line t ≡ take (length (first_line t)) t
first_take t =
    let x : List ℕ = first_line t in
    sym (take-append_seam x (drop (length x) t)) ∙ ap (take (length x)) (first_split t)

-- past bytes without a line feed it goes on as the first line of the rest
pub first_drop : (k : ℕ) (t : List ℕ) → feeds (take k t) ≡ 0 → drop k (first_line t) ≡ first_line (drop k t)
first_drop zero t z = refl
first_drop (suc k) [] z = rw first_none
first_drop (suc k) (b ∷ t) z =
    let f = free_head b (take k t) z in
    rw (first_other b t f.0) (first_drop k t f.1)

-- ---- what a line's reader looks at: the first field, the first byte, a tag

pub first_field : (t : List ℕ) → field_of (first_line t) ≡ field_of t
first_field [] = rw first_none
first_field (b ∷ t) =
    by_equal b feed (λ e. rw (e, first_feed t, field_stop feed [] refl, field_stop feed t refl))
    (λ n.
    rw (first_other b t n)
    (by_test (eqb b tab || eqb b feed) (λ e. rw (field_stop b (first_line t) e, field_stop b t e))
    (λ e. rw (field_more b (first_line t) e, field_more b t e, first_field t))))

pub first_begins : (b : ℕ) (t : List ℕ) → begins b (first_line t) ≡ begins b t
first_begins b [] = rw first_none
first_begins b (c ∷ t) = by_equal c feed (λ e. rw (e, first_feed t)) (λ n. rw (first_other c t n))

pub first_agreed : (tag t : List ℕ) → feeds tag ≡ 0 → agreed tag (first_line t) ≡ agreed tag t
unfolding agreed
first_agreed [] t z = refl
first_agreed (a ∷ s) [] z = rw first_none
first_agreed (a ∷ s) (b ∷ t) z =
    let f = free_head a s z in
    by_equal b feed
    (λ e. rw (e, first_feed t, ne_eqb feed a (λ q. f.0 (sym q)), agreed))
    (λ n.
    rw (first_other b t n)
    (by_test (eqb b a) (λ e. rw (e, agreed, first_agreed s t f.1)) (λ e. rw (e, agreed))))
