-- 02 (vi), a text renewed: line by line, and that of a text of the sheet's form it is the text of the same rows with
-- their counts. A text whose FIT lines have three numbers is as it was.
use mathlib.Core.Path.{◌≡◌, refl, sym, ap, ◌∙◌}
use mathlib.Core.Logic.{◌≢◌}
use mathlib.Core.Bool.{Bool, true, false, not, ◌||◌, and-false}
use mathlib.Core.List.{List, [], ◌∷◌, ◌++◌, map, append_assoc}
use Prim.Native.Nat.{ℕ, ◌+◌}
use native.Mathlib.Omega.{arith}
use borrow.Author.Tests.{eq-eqb, ne_eqb}
use lib.Dec.{eqb}
use lib.ListN.{length}
use Rattle.text.specs.Quoted.{tab, feed, digit0}
use Rattle.text.specs.Field.{agreed}
use Rattle.text.specs.Number.{digits_in, digits_of}
use Rattle.text.specs.Limit.{ranging}
use Rattle.text.specs.Line.{numbers_text, line_text}
use Rattle.text.specs.Place.{feeds, cut_from, cut_lines, joined}
use Rattle.ground.proofs.Booleans.{both_hold, not_false, false_true, by_test, by_equal}
use Rattle.text.proofs.Field.{agreed_self}
use Rattle.text.proofs.Place.{feeds_feed, feeds_other, feeds_append}
use Rattle.text.proofs.Cut.{cut_feed, cut_other, lines_join}
use Rattle.sheet.specs.Lines.{fit_line}
use Rattle.sheet.specs.Renewed.{tabs, is_old, with_one, renewed_line, renewed, none_old, is_new}
use Rattle.sheet.proofs.Lined.{Lined, tabs_append, entry_free}

-- ---- no line is of before

lines_new : (xs : List (List ℕ)) → none_old xs ≡ true → map renewed_line xs ≡ xs
unfolding none_old
lines_new [] h = refl
lines_new (x ∷ xs) h =
    let p = both_hold (not (is_old x)) (none_old xs) h in
    rw (not_false (is_old x) p.0, lines_new xs p.1)

pub new_renewed : (t : List ℕ) → is_new t ≡ true → renewed t ≡ t
unfolding renewed
new_renewed t h = ap joined (lines_new (cut_lines t) h) ∙ lines_join t

-- ---- a line, and then the rest

cut_line : (x before u : List ℕ) → feeds before ≡ 0
    → cut_from x (before ++ (feed ∷ u)) ≡ (x ++ (before ++ (feed ∷ []))) ∷ cut_lines u
cut_line x [] u h = cut_feed x u
cut_line x (b ∷ before) u h =
    by_equal b feed (λ e. absurd (omega (arith, rw (e, feeds_feed before) at h)))
    (λ n.
    let f : feeds before ≡ 0 = sym (feeds_other b before n) ∙ h in
    cut_other x b (before ++ (feed ∷ u)) n
    ∙ cut_line (x ++ (b ∷ [])) before u f
    ∙ rw (append_assoc x (b ∷ []) (before ++ (feed ∷ []))))

pub renewed_line_lem : (x u : List ℕ) (many : ℕ) → Lined x many → renewed (x ++ u) ≡ renewed_line x ++ renewed u
unfolding renewed
renewed_line_lem x u many l =
    let y : List ℕ = l.before ++ (feed ∷ []) in
    let c : cut_lines (y ++ u) ≡ y ∷ cut_lines u =
    ap cut_lines (append_assoc l.before (feed ∷ []) u) ∙ cut_line [] l.before u l.free in
    let e : x ≡ y = l.whole in
    rw (e, c)

-- ---- a line of before, and any other

-- a line feed at its end, and none before
with_one_lem : (x : List ℕ) → feeds x ≡ 0 → with_one (x ++ (feed ∷ [])) ≡ x ++ (tab ∷ (1 + digit0) ∷ feed ∷ [])
unfolding with_one
with_one_lem [] h = refl
with_one_lem (b ∷ x) h =
    by_equal b feed (λ e. absurd (omega (arith, rw (e, feeds_feed x) at h)))
    (λ n.
    let f : feeds x ≡ 0 = sym (feeds_other b x n) ∙ h in
    rw (ne_eqb b feed n, with_one, with_one_lem x f))

tabs_lined : (x : List ℕ) (many : ℕ) → Lined x many → tabs x ≡ many
unfolding tabs
tabs_lined x many l = rw (l.whole, tabs_append l.before (feed ∷ []), l.tabbed) (omega arith)

module _ (x u : List ℕ) (many : ℕ) (l : Lined x many) where
  -- with another tag, or with other than two numbers
  pub other_renewed : is_old x ≡ false → renewed (x ++ u) ≡ x ++ renewed u
  other_renewed o = renewed_line_lem x u many l ∙ rw o

  pub not_two : many ≢ 2 → is_old x ≡ false
  not_two n =
      rw (ne_eqb (tabs x) 2 (λ e. n (sym (tabs_lined x many l) ∙ e)))
      (and-false (eqb (agreed fit_line.tag x) (length fit_line.tag)))

-- ---- another tag

-- whether two texts differ in a byte that both have
unfoldable pub clash : List ℕ → List ℕ → Bool
clash [] t = false
clash (a ∷ s) [] = false
clash (a ∷ s) (b ∷ t) = not (eqb b a) || clash s t

clash_agreed : (s t x : List ℕ) → clash s t ≡ true → agreed s (t ++ x) ≢ length s
unfolding clash agreed
clash_agreed [] t x h e = false_true h
clash_agreed (a ∷ s) [] x h e = false_true h
clash_agreed (a ∷ s) (b ∷ t) x h e =
    by_test (eqb b a)
    (λ d. clash_agreed s t x (rw d at h) (omega (arith, rw (d, agreed) at e)))
    (λ d. absurd (omega (arith, rw (d, agreed) at e)))

pub other_tag : (tag x : List ℕ) → clash fit_line.tag tag ≡ true → is_old (tag ++ x) ≡ false
other_tag tag x h =
    rw (ne_eqb (agreed fit_line.tag (tag ++ x)) (length fit_line.tag) (clash_agreed fit_line.tag tag x h))

-- ---- a FIT line of two numbers, and the same with its count

pub tag_free : feeds fit_line.tag ≡ 0
unfolding feeds
tag_free = refl

digits_free : (n : ℕ) → feeds (digits_of n) ≡ 0
digits_free n = (entry_free (ranging 0 0) n).0

pub two_old : (n w : ℕ) → Lined (line_text fit_line (n ∷ w ∷ [])) 2 → is_old (line_text fit_line (n ∷ w ∷ [])) ≡ true
two_old n w l =
    let x : List ℕ = numbers_text fit_line.limits (n ∷ w ∷ []) in
    let a = eq-eqb (agreed fit_line.tag (fit_line.tag ++ x)) (length fit_line.tag) (agreed_self fit_line.tag x) in
    rw (a, tabs_lined (line_text fit_line (n ∷ w ∷ [])) 2 l)

pub one_written : (n w : ℕ) → with_one (line_text fit_line (n ∷ w ∷ [])) ≡ line_text fit_line (n ∷ w ∷ 1 ∷ [])
unfolding numbers_text digits_of digits_in
one_written n w =
    let dn : List ℕ = digits_of n in
    let dw : List ℕ = digits_of w in
    let y : List ℕ = fit_line.tag ++ (dn ++ (tab ∷ dw)) in
    let z : List ℕ = tab ∷ (1 + digit0) ∷ feed ∷ [] in
    let free : feeds y ≡ 0 =
    omega (
      arith,
      feeds_append fit_line.tag (dn ++ (tab ∷ dw)),
      tag_free,
      feeds_append dn (tab ∷ dw),
      digits_free n,
      feeds_other tab dw (λ e. omega arith),
      digits_free w,
    ) in
    let a : line_text fit_line (n ∷ w ∷ []) ≡ y ++ (feed ∷ []) = simp append_assoc in
    let b : y ++ z ≡ line_text fit_line (n ∷ w ∷ 1 ∷ []) = simp append_assoc in
    ap with_one a ∙ with_one_lem y free ∙ b
