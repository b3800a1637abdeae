-- Numbers that stand by one limit whose range goes down to 0: the greatest of them tells.
use mathlib.Core.Path.{◌≡◌, sym}
use mathlib.Core.Bool.{true, ◌&&◌, and-false}
use mathlib.Core.List.{List, [], ◌∷◌, foldr}
use Prim.Native.Nat.{ℕ, max}
use native.Mathlib.Omega.{arith}
use borrow.Author.Tests.{le-leb, lt-leb}
use lib.Dec.{leb, leb-zero}
use lib.ListN.{length, replicate}
use Rattle.text.specs.declared.Limit.{Limit}
use Rattle.text.specs.Limit.{all_hold, from_zero}
use Rattle.ground.proofs.Booleans.{by_less}
use Rattle.text.proofs.Limits.{low_holds}

-- ---- many numbers

max_leb : (a b h : ℕ) → leb (max a b) h ≡ (leb a h && leb b h)
max_leb a b h =
    by_less h a (λ p. rw (lt-leb a h p) (lt-leb (max a b) h (omega arith)))
    (λ p.
    by_less h b (λ q. rw (lt-leb b h q, and-false) (lt-leb (max a b) h (omega arith)))
    (λ q. rw (le-leb a h p, le-leb b h q) (le-leb (max a b) h (omega arith))))

pub alike_holds : (l : Limit) (last : ℕ) (ns : List ℕ)
    → from_zero l ≡ true
    → all_hold (replicate (length ns) l) last ns ≡ leb (foldr max 0 ns) l.high
unfolding all_hold
alike_holds l last [] f = sym (leb-zero l.high)
alike_holds l last (n ∷ ns) f =
    rw (low_holds l last n f, alike_holds l n ns f) (sym (max_leb n (foldr max 0 ns) l.high))
