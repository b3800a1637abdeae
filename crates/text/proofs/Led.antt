-- A text that another leads: pieces read one after the other make up the text.
use mathlib.Core.Path.{◌≡◌, refl, sym, ap, ◌∙◌}
use mathlib.Core.List.{List, [], ◌++◌, append_assoc}
use Prim.Native.Nat.{ℕ, ◌+◌}
use native.Mathlib.Omega.{arith}
use lib.ListN.{length, drop, length-append}
use lib.Seq.{drop-drop}

-- ---- a text led by another

-- x stands at the start of t, and is k bytes long
pub record Led (x t : List ℕ) (k : ℕ) : Type 0 where
  pub start : t ≡ x ++ drop k t
  pub count : k ≡ length x

pub led_none : (t : List ℕ) → Led [] t 0
led_none t = record { start = refl; count = refl }

pub led_more : {x y t : List ℕ} {j k : ℕ} → Led x t j → Led y (drop j t) k → Led (x ++ y) t (j + k)
led_more {x} {y} {t} {j} {k} p q =
    record {
      start = p.start
          ∙ ap (λ (z : List ℕ). x ++ z) (q.start ∙ rw (drop-drop k j t))
          ∙ sym (append_assoc x y (drop (j + k) t));
      count = omega (arith, p.count, q.count, length-append x y);
    }
