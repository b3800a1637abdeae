-- Laws of fields and of how a text begins.
use mathlib.Core.Path.{◌≡◌, refl, ap, ◌∙◌}
use mathlib.Core.Bool.{true, false, ◌||◌}
use mathlib.Core.List.{List, [], ◌∷◌, ◌++◌}
use Prim.Native.Nat.{ℕ, suc, ◌≤◌, ◌<◌, min}
use native.Mathlib.Omega.{arith}
use borrow.Author.Tests.{eq-eqb, ne_eqb, eqb-true}
use lib.Dec.{eqb}
use lib.ListN.{length, take, drop, get_or, length-append}
use Rattle.ground.proofs.Booleans.{false_true, by_test, by_equal}
use Rattle.text.specs.Quoted.{tab, feed}
use Rattle.text.specs.Field.{field_of, begins, agreed}

-- ---- a byte at the start

pub begins_past : (b : ℕ) (t : List ℕ) → length t ≡ 0 → begins b t ≡ false
begins_past b [] h = refl
begins_past b (c ∷ t) h = absurd (omega arith)

pub begins_head : (b : ℕ) (t : List ℕ) → 0 < length t → begins b t ≡ eqb (get_or t 0 0) b
begins_head b [] h = absurd (omega arith)
begins_head b (c ∷ t) h = refl

pub begins_some : (b : ℕ) (t : List ℕ) → begins b t ≡ true → 0 < length t
begins_some b [] e = false_true e
begins_some b (c ∷ t) e = omega arith

-- a text that begins with b is b and the rest
pub begins_cons : (b : ℕ) (t : List ℕ) → begins b t ≡ true → t ≡ b ∷ drop 1 t
begins_cons b [] e = false_true e
begins_cons b (c ∷ t) e = ap (λ (x : ℕ). x ∷ t) (eqb-true c b e)

-- ---- the field, a byte more in front

pub field_stop : (b : ℕ) (t : List ℕ) → (eqb b tab || eqb b feed) ≡ true → field_of (b ∷ t) ≡ []
unfolding field_of
field_stop b t e = rw (e, field_of)

pub field_more : (b : ℕ) (t : List ℕ) → (eqb b tab || eqb b feed) ≡ false → field_of (b ∷ t) ≡ b ∷ field_of t
unfolding field_of
field_more b t e = rw (e, field_of)

-- ---- the field and what stands after it

pub field_split : (t : List ℕ) → field_of t ++ drop (length (field_of t)) t ≡ t
unfolding field_of
field_split [] = refl
field_split (b ∷ t) =
    by_test (eqb b tab || eqb b feed) (λ e. rw (field_stop b t e))
    (λ e. rw (field_more b t e) (ap (λ (l : List ℕ). b ∷ l) (field_split t)))

pub field_most : (t : List ℕ) → length (field_of t) ≤ length t
field_most t = omega (arith, length-append (field_of t) (drop (length (field_of t)) t), ap length (field_split t))

-- ---- how far a tag and a text agree

-- a tag that agrees whole stands at the text's start
pub agreed_whole : (s t : List ℕ) → agreed s t ≡ length s → t ≡ s ++ drop (length s) t
unfolding agreed
agreed_whole [] t e = refl
agreed_whole (a ∷ s) [] e = absurd (omega arith)
agreed_whole (a ∷ s) (b ∷ t) e =
    by_equal b a
    (λ q.
    let r : t ≡ s ++ drop (length s) t = agreed_whole s t (omega (arith, rw (eq-eqb b a q, agreed) at e)) in
    ap (λ (x : ℕ). x ∷ t) q ∙ ap (λ (x : List ℕ). a ∷ x) r)
    (λ q. absurd (omega (arith, rw (ne_eqb b a q, agreed) at e)))

-- and a text that starts with the tag agrees whole
pub agreed_self : (s t : List ℕ) → agreed s (s ++ t) ≡ length s
unfolding agreed
agreed_self [] t = refl
agreed_self (a ∷ s) t = rw (eq-eqb a a refl, agreed) (ap suc (agreed_self s t))

-- the bytes that agree are the tag's
pub agreed_take : (s t : List ℕ) → take (agreed s t) t ≡ take (agreed s t) s
unfolding agreed
agreed_take [] t = refl
agreed_take (a ∷ s) [] = refl
agreed_take (a ∷ s) (b ∷ t) =
    by_equal b a (λ q. rw (eq-eqb b a q, agreed, q) (ap (λ (x : List ℕ). a ∷ x) (agreed_take s t)))
    (λ q. rw (ne_eqb b a q, agreed))

agreed_least : (s t : List ℕ) → agreed s t ≤ min (length s) (length t)
unfolding agreed
agreed_least [] t = omega arith
agreed_least (a ∷ s) [] = omega arith
agreed_least (a ∷ s) (b ∷ t) =
    by_test (eqb b a) (λ e. rw (e, agreed) (omega (arith, agreed_least s t))) (λ e. rw (e, agreed) (omega arith))

pub agreed_most : (s t : List ℕ) → agreed s t ≤ length s
agreed_most s t = omega (arith, agreed_least s t)

pub agreed_fits : (s t : List ℕ) → agreed s t ≤ length t
agreed_fits s t = omega (arith, agreed_least s t)
