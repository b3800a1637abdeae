-- A line of one of several kinds, told by its letter: of a text that begins as a line of the kind l, "a line of one of
-- the kinds" says just "a line l".
use mathlib.Core.Path.{◌≡◌, refl, sym, ap, ◌∙◌}
use mathlib.Core.Bool.{true, ◌&&◌}
use mathlib.Core.Logic.{inl, inr}
use mathlib.Core.List.{List, [], ◌∷◌, ◌++◌}
use mathlib.Core.Option.{none, some, none-ne-some, some-injective}
use Prim.Native.Nat.{ℕ, ◌<◌}
use native.Mathlib.Omega.{arith}
use borrow.Author.Tests.{eqb-true, eq-eqb, ltb-true}
use lib.Dec.{eqb, ltb}
use lib.ListN.{length, get_or}
use Rattle.text.specs.Line.{Line}
use Rattle.ground.proofs.Booleans.{both_hold, by_test}
use Rattle.text.proofs.Limits.{readable}
use Rattle.form.specs.Parts.{letter_of, kind_of}
use Rattle.form.specs.Reading.{kind_at}
use Rattle.form.proofs.Letters.{absent, line_made, kinds_made}
use Rattle.form.proofs.Made.{absent_none}
use Rattle.fault.specs.Rules.{Rule, LineThen, OneThen}
use Rattle.fault.proofs.Choice.{first_of, Agree}

-- ---- kinds

pub record Distinct (l : Line) (ls : List Line) : Type 0 where
  pub made : line_made l ≡ true
  pub other : kind_of ls (letter_of l) ≡ none
  pub rest : kinds_made ls ≡ true

pub distinct : (l : Line) (ls : List Line) → kinds_made (l ∷ ls) ≡ true → Distinct l ls
unfolding kinds_made
distinct l ls m =
    let p = both_hold (line_made l && absent (kind_of ls (letter_of l))) (kinds_made ls) m in
    let q = both_hold (line_made l) (absent (kind_of ls (letter_of l))) p.0 in
    record { made = q.0; other = absent_none (kind_of ls (letter_of l)) q.1; rest = p.1 }

pub tagged : (l : Line) → line_made l ≡ true → 0 < length l.tag
unfolding line_made
tagged l m = ltb-true 0 (length l.tag) (both_hold (ltb 0 (length l.tag)) (readable l.limits) m).0

pub first_kind : (l : Line) (ls : List Line) → kind_of (l ∷ ls) (letter_of l) ≡ some l
unfolding kind_of
first_kind l ls = rw (eq-eqb (letter_of l) (letter_of l) refl, kind_of)

pub kind_first : (kinds : List Line) (x t : List ℕ) → first_of x ≡ first_of t → kind_at kinds x ≡ kind_at kinds t
kind_first kinds [] [] e = refl
kind_first kinds [] (c ∷ t) e = absurd (none-ne-some c e)
kind_first kinds (b ∷ x) [] e = absurd (none-ne-some b (sym e))
kind_first kinds (b ∷ x) (c ∷ t) e = ap (kind_of kinds) (some-injective b c e)

-- the first of the kinds has the text's letter, or is none of its matter
by_letter_lem : {A : Type 0} (l : Line) (ls : List Line) (x : List ℕ)
    → (kind_at (l ∷ ls) x ≡ some l → first_of x ≡ some (letter_of l) → A)
    → (kind_at (l ∷ ls) x ≡ kind_at ls x → A)
    → A
unfolding kind_of
by_letter_lem l ls [] f g = g refl
by_letter_lem l ls (b ∷ x) f g =
    by_test (eqb b (letter_of l)) (λ e. f (rw (e, kind_of)) (ap some (eqb-true b (letter_of l) e)))
    (λ e. g (rw (e, kind_of)))

-- ---- a text by "a line of one of the kinds, and then a text by S"

module _ (S : Rule) where
  -- a text that begins with a line begins with its letter
  line_first : (l : Line) (x : List ℕ) → line_made l ≡ true → LineThen l S x → first_of x ≡ some (letter_of l)
  line_first l x m w = rw (w.joined, w.by_one) (go l.tag (tagged l m))
    where
      go : (tag : List ℕ) → 0 < length tag → first_of (tag ++ w.two) ≡ some (get_or tag 0 0)
      go [] h = absurd (omega arith)
      go (b ∷ tag) h = refl

  -- and so as the kind that has it, among whatever kinds
  pub line_kind : (kinds : List Line) (l : Line) (x : List ℕ) → line_made l ≡ true
      → LineThen l S x
      → kind_at kinds x ≡ kind_of kinds (letter_of l)
  line_kind kinds l x m w = kind_first kinds x (letter_of l ∷ []) (line_first l x m w)

  own_kind : (l : Line) (ls : List Line) (x : List ℕ) → line_made l ≡ true → LineThen l S x → kind_at (l ∷ ls) x ≡ some l
  own_kind l ls x m w = line_kind (l ∷ ls) l x m w ∙ first_kind l ls

  -- what begins as no line of the kinds is no such text
  pub one_known : (ls : List Line) (x : List ℕ) → kinds_made ls ≡ true → OneThen ls S x → kind_at ls x ≡ none → ⊥
  one_known [] x m w e = w
  one_known (l ∷ ls) x m (inl w) e = none-ne-some l (sym e ∙ own_kind l ls x (distinct l ls m).made w)
  one_known (l ∷ ls) x m (inr w) e =
      by_letter_lem l ls x (λ f g. none-ne-some l (sym e ∙ f))
      (λ f. one_known ls x (distinct l ls m).rest w (sym f ∙ e))

  -- a line of one of the kinds, where the text begins as the kind l: it is l
  one_line : (ls : List Line) (l : Line) (x : List ℕ) → kinds_made ls ≡ true
      → kind_at ls x ≡ some l
      → OneThen ls S x
      → LineThen l S x
  one_line [] l x m e w = absurd w
  one_line (n ∷ ls) l x m e (inl w) =
      rw (some-injective n l (sym (own_kind n ls x (distinct n ls m).made w) ∙ e)) at w
  one_line (n ∷ ls) l x m e (inr w) =
      let d = distinct n ls m in
      by_letter_lem n ls x
      (λ f g. absurd (one_known ls x d.rest w (kind_first ls x (letter_of n ∷ []) g ∙ d.other)))
      (λ f. one_line ls l x d.rest (sym f ∙ e) w)

  line_one : (ls : List Line) (l : Line) (t x : List ℕ) → kind_at ls t ≡ some l → LineThen l S x → OneThen ls S x
  unfolding kind_of
  line_one [] l [] x e w = none-ne-some l e
  line_one [] l (b ∷ t) x e w = none-ne-some l e
  line_one (n ∷ ls) l t x e w =
      by_letter_lem n ls t (λ f g. inl (rw (some-injective l n (sym e ∙ f)) at w))
      (λ f. inr (line_one ls l t x (sym f ∙ e) w))

  pub agree_one : (kinds : List Line) (l : Line) (t : List ℕ) → kinds_made kinds ≡ true
      → kind_at kinds t ≡ some l
      → Agree (LineThen l S) (OneThen kinds S) t
  agree_one kinds l t m e =
      record {
        wider = λ x w. line_one kinds l t x e w;
        same = λ x f w. one_line kinds l x m (kind_first kinds x t f ∙ e) w;
      }
