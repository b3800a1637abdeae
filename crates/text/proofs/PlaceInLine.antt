-- Line and byte of a place are those of the text cut into lines.
use mathlib.Core.Path.{◌≡◌, refl, sym, ◌∙◌}
use mathlib.Core.List.{List, [], ◌∷◌, ◌++◌, append-nil, append_assoc}
use Prim.Native.Nat.{ℕ, zero, suc, ◌+◌, ◌-◌, ◌≤◌, ◌<◌}
use native.Mathlib.Omega.{arith}
use lib.ListN.{length, take, get_or, length-append}
use lib.Seq.{get_or-append_seam, take_all}
use Rattle.ground.proofs.Booleans.{by_equal}
use Rattle.text.specs.Quoted.{feed}
use Rattle.text.specs.Place.{feeds, since_feed, line_at, byte_at, cut_from, cut_lines, joined}
use Rattle.text.proofs.Place.{feeds_none, feeds_feed, feeds_other, since_none, since_feed_lem, since_other}
use Rattle.text.proofs.Place.{line_feed, byte_feed}
use Rattle.text.proofs.Cut.{nth_line, less_one, cut_none, cut_feed, cut_other, one_more, lines_count}

-- ---- the bytes of the lines before, and those before it in its line, are the bytes before the place

sum_from : (x t : List ℕ) (k : ℕ) → k ≤ length t →
    length x + k ≡ length (joined (take (feeds (take k t)) (cut_from x t))) + since_feed (length x) (take k t)
sum_from x t zero h = rw (feeds_none, since_none (length x)) (omega arith)
sum_from x [] (suc k) h = absurd (omega arith)
sum_from x (b ∷ t) (suc k) h =
    let p = sum_from [] t k (omega arith) in
    let q = sum_from (x ++ (b ∷ [])) t k (omega arith) in
    let s = take k t in
    let l = length-append (x ++ (feed ∷ [])) (joined (take (feeds s) (cut_from [] t))) in
    by_equal b feed
    (λ e. rw (e, feeds_feed s, since_feed_lem (length x) s, cut_feed x t) (omega (arith, p, one_more x feed, l)))
    (λ n. rw (feeds_other b s n, since_other (length x) b s n, cut_other x b t n)
    (omega (arith, rw (one_more x b) at q)))

pub place_sum : (t : List ℕ) (k : ℕ) → k ≤ length t →
    k ≡ length (joined (take (line_at t k - 1) (cut_lines t))) + (byte_at t k - 1)
place_sum t k h = rw (less_one (feeds (take k t))) (omega (arith, sum_from [] t k h))

-- so line and byte settle the place
pub place_settled : (t : List ℕ) (j k : ℕ) → j ≤ length t → k ≤ length t →
    line_at t j ≡ line_at t k → byte_at t j ≡ byte_at t k → j ≡ k
place_settled t j k hj hk l b =
    let p = place_sum t j hj in
    omega (arith, rw (l, b) at p, place_sum t k hk)

-- ---- the byte there is the text's

abbrev pub Has : List ℕ → ℕ → ℕ → Type 0
Has l i b = (i < length l) × (get_or l i 0 ≡ b)

has_seam : (x y : List ℕ) (b : ℕ) → Has (x ++ (b ∷ y)) (length x) b
has_seam x y b = (omega (arith, length-append x (b ∷ y)), get_or-append_seam x b y 0)

-- the first line begins with what stood before
first_from : (x t : List ℕ) → (y : List ℕ) × (get_or (cut_from x t) 0 [] ≡ x ++ y)
first_from x [] = ([], rw (cut_none x) (sym (append-nil x)))
first_from x (b ∷ t) =
    let h = first_from (x ++ (b ∷ [])) t in
    by_equal b feed (λ e. (feed ∷ [], rw (e, cut_feed x t) refl))
    (λ n. (b ∷ h.0, rw (cut_other x b t n) (h.1 ∙ append_assoc x (b ∷ []) h.0)))

byte_from : (x t : List ℕ) (k : ℕ) → k < length t →
    Has (get_or (cut_from x t) (feeds (take k t)) []) (since_feed (length x) (take k t)) (get_or t k 0)
byte_from x [] k h = absurd (omega arith)
byte_from x (b ∷ t) zero h =
    let g = first_from (x ++ (b ∷ [])) t in
    rw (feeds_none, since_none (length x))
    (by_equal b feed (λ e. rw (e, cut_feed x t) (has_seam x [] feed))
    (λ n. rw (cut_other x b t n, g.1, append_assoc x (b ∷ []) g.0) (has_seam x g.0 b)))
byte_from x (b ∷ t) (suc k) h =
    let p = byte_from [] t k (omega arith) in
    let q = byte_from (x ++ (b ∷ [])) t k (omega arith) in
    let s = take k t in
    by_equal b feed (λ e. rw (e, feeds_feed s, since_feed_lem (length x) s, cut_feed x t) p)
    (λ n. rw (feeds_other b s n, since_other (length x) b s n, cut_other x b t n) (rw (one_more x b) at q))

pub place_byte : (t : List ℕ) (k : ℕ) → k < length t → Has (nth_line t (line_at t k)) (byte_at t k - 1) (get_or t k 0)
place_byte t k h = rw (less_one (feeds (take k t)), less_one (since_feed 0 (take k t))) (byte_from [] t k h)

-- ---- the place after the last byte

end_from : (x t : List ℕ) → since_feed (length x) t ≡ length (get_or (cut_from x t) (feeds t) [])
end_from x [] = rw (feeds_none, since_none (length x), cut_none x) refl
end_from x (b ∷ t) =
    let p = end_from [] t in
    let q = end_from (x ++ (b ∷ [])) t in
    by_equal b feed (λ e. rw (e, feeds_feed t, since_feed_lem (length x) t, cut_feed x t) p)
    (λ n. rw (feeds_other b t n, since_other (length x) b t n, cut_other x b t n) (rw (one_more x b) at q))

-- it lies at the end of the last line
pub end_line : (t : List ℕ) → line_at t (length t) ≡ length (cut_lines t)
end_line t = rw (take_all (length t) t (omega arith), lines_count t) refl

pub end_byte : (t : List ℕ) → byte_at t (length t) - 1 ≡ length (nth_line t (length (cut_lines t)))
end_byte t =
    rw (take_all (length t) t (omega arith), lines_count t, less_one (feeds t), less_one (since_feed 0 t))
    (end_from [] t)

-- so after a line feed it is the next line's first
pub end_after_feed : (x : List ℕ) →
    let t = x ++ (feed ∷ []) in
    (line_at t (length t) ≡ line_at t (length x) + 1) × (byte_at t (length t) ≡ 1)
end_after_feed x =
    let t = x ++ (feed ∷ []) in
    let l : length t ≡ length x + 1 = omega (arith, one_more x feed) in
    let h : length x < length t = omega arith in
    let f = get_or-append_seam x feed [] 0 in
    rw l (line_feed t (length x) h f, byte_feed t (length x) h f)
