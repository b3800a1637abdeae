-- A number that there may be none of: what it tells, and the greater of two.
use mathlib.Core.Path.{◌≡◌, refl}
use mathlib.Core.Bool.{Bool, true, false, cond}
use Prim.Native.Nat.{ℕ, ◌≤◌, max}
use native.Mathlib.Omega.{arith}
use borrow.Author.Tests.{leb-true, leb-false, ltb-true, ltb-false, le-leb, lt-leb}
use lib.Dec.{leb, ltb}
use Rattle.std.proofs.Common.{Some, None, Less, Equal, Greater, ◌==◌}
use Rattle.std.specs.Option.{option_cmp}
use Rattle.std.specs.Ordering.{nat_cmp, ord_max, is_lt}
use Rattle.figuring.specs.Positive.{if_any}

pub any_none : (n : ℕ) → if_any n ≡ None → n ≡ 0
any_none n = go (leb 1 n) refl
  where
    go : (t : Bool) → leb 1 n ≡ t → cond t (Some n) None ≡ None → n ≡ 0
    go true e f = cc
    go false e f = let h = leb-false 1 n e in omega arith

pub any_some : (n : ℕ) {m : ℕ} → if_any n ≡ Some m → (m ≡ n) × (1 ≤ n)
any_some n {m} = go (leb 1 n) refl
  where
    go : (t : Bool) → leb 1 n ≡ t → cond t (Some n) None ≡ Some m → (m ≡ n) × (1 ≤ n)
    go true e f = (cc, leb-true 1 n e)
    go false e f = cc

pub some_there : {m n : ℕ} → m ≡ n → 1 ≤ n → m ≡ 0 → ⊥
some_there e h z = omega arith

pub none_any : {n : ℕ} → n ≡ 0 → None ≡ if_any n
none_any {n} e = rw (lt-leb 1 n (omega arith)) refl

pub some_any : {m n : ℕ} → m ≡ n → 1 ≤ m → Some m ≡ if_any n
some_any {m} {n} e h = rw (le-leb 1 n (omega arith), e) refl

-- none is the least
pub greater_any : (a b : ℕ) → ord_max (option_cmp nat_cmp) (if_any a) (if_any b) ≡ if_any (max a b)
greater_any a b = go (leb 1 a) (leb 1 b) refl refl
  where
    both : (t u : Bool) → ltb b a ≡ t → leb 1 a ≡ true → leb 1 b ≡ true
        → cond (is_lt (cond t Less (cond u Equal Greater))) (Some a) (Some b) ≡ if_any (max a b)
    both true u d e f = let h = ltb-true b a d in let m : max a b ≡ a = omega arith in rw (m, e) refl
    both false true d e f = let h = ltb-false b a d in let m : max a b ≡ b = omega arith in rw (m, f) refl
    both false false d e f = let h = ltb-false b a d in let m : max a b ≡ b = omega arith in rw (m, f) refl

    go : (t u : Bool) → leb 1 a ≡ t → leb 1 b ≡ u
        → ord_max (option_cmp nat_cmp) (cond t (Some a) None) (cond u (Some b) None) ≡ if_any (max a b)
    go true true e f = both (ltb b a) (b == a) refl e f
    go true false e f = let h = leb-false 1 b f in some_any (omega arith) (leb-true 1 a e)
    go false true e f = let h = leb-false 1 a e in some_any (omega arith) (leb-true 1 b f)
    go false false e f =
        let h = leb-false 1 a e in
        let k = leb-false 1 b f in
        none_any (omega arith)
