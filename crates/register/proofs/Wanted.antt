-- Answers beside those that are wanted, decided number by number. A computed statement about many answers goes by this
-- since, where it is false, it fails at once: two lists that part are held against each other at length.
use mathlib.Core.Path.{◌≡◌, refl, sym, ap, ◌∙◌}
use mathlib.Core.Bool.{Bool, true, false, ◌&&◌}
use mathlib.Core.List.{List, [], ◌∷◌}
use Prim.Native.Nat.{ℕ, zero, suc}
use borrow.Author.Tests.{eqb-true}
use lib.Dec.{eqb}
use lib.ListN.{get_or}
use Rattle.ground.proofs.Booleans.{both_hold, false_true}
use Rattle.answers.specs.Answer.{Answer}
use Rattle.answers.specs.Answer.{Refused, RefusedAt, Done, Count, Plate}

-- ---- an answer as numbers, and back

abbrev coded : Answer → List ℕ
coded (Refused number) = 0 ∷ number ∷ []
coded (RefusedAt number line byte) = 1 ∷ number ∷ line ∷ byte ∷ []
coded Done = 2 ∷ []
coded (Count n) = 3 ∷ n ∷ []
coded (Plate load figure) = 4 ∷ load ∷ figure ∷ []

meant : ℕ → ℕ → ℕ → ℕ → Answer
meant zero a b c = Refused a
meant (suc zero) a b c = RefusedAt a b c
meant (suc (suc zero)) a b c = Done
meant (suc (suc (suc zero))) a b c = Count a
meant (suc (suc (suc (suc n)))) a b c = Plate a b

abbrev decoded : List ℕ → Answer
decoded ns = meant (get_or ns 0 0) (get_or ns 1 0) (get_or ns 2 0) (get_or ns 3 0)

coded_back : (a : Answer) → decoded (coded a) ≡ a
unfolding meant
coded_back (Refused number) = refl
coded_back (RefusedAt number line byte) = refl
coded_back Done = refl
coded_back (Count n) = refl
coded_back (Plate load figure) = refl

-- ---- the same

unfoldable pub alike : List ℕ → List ℕ → Bool
alike [] [] = true
alike [] (k ∷ ks) = false
alike (n ∷ ns) [] = false
alike (n ∷ ns) (k ∷ ks) = eqb n k && alike ns ks

alike_equal : (ns ks : List ℕ) → alike ns ks ≡ true → ns ≡ ks
unfolding alike
alike_equal [] [] h = refl
alike_equal [] (k ∷ ks) h = false_true h
alike_equal (n ∷ ns) [] h = false_true h
alike_equal (n ∷ ns) (k ∷ ks) h =
    let p = both_hold (eqb n k) (alike ns ks) h in
    rw (eqb-true n k p.0, alike_equal ns ks p.1) refl

unfoldable pub agree : List Answer → List Answer → Bool
agree [] [] = true
agree [] (w ∷ ws) = false
agree (a ∷ xs) [] = false
agree (a ∷ xs) (w ∷ ws) = alike (coded a) (coded w) && agree xs ws

pub as_wanted : (xs ws : List Answer) → agree xs ws ≡ true → xs ≡ ws
unfolding agree
as_wanted [] [] h = refl
as_wanted [] (w ∷ ws) h = false_true h
as_wanted (a ∷ xs) [] h = false_true h
as_wanted (a ∷ xs) (w ∷ ws) h =
    let p = both_hold (alike (coded a) (coded w)) (agree xs ws) h in
    let e : a ≡ w =
    sym (coded_back a) ∙ (ap decoded (alike_equal (coded a) (coded w) p.0) ∙ coded_back w) in
    rw (e, as_wanted xs ws p.1) refl
