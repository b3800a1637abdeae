-- Laws of a line's text, number by number, and of the loop that writes it.
use mathlib.Core.Path.{◌≡◌, refl, ◌∙◌}
use mathlib.Core.Bool.{cond}
use mathlib.Core.List.{List, [], ◌∷◌, ◌++◌, append-nil, append_assoc}
use Prim.Native.Nat.{ℕ, ◌+◌, ◌-◌, ◌*◌, ◌≤◌, ◌<◌}
use native.Mathlib.Omega.{arith}
use lib.Dec.{eqb}
use lib.ListN.{length, take, drop, get_or, set, length-drop}
use Rattle.text.specs.Quoted.{tab, feed}
use Rattle.text.specs.Number.{eleven_digits}
use Rattle.text.specs.declared.Limit.{Limit}
use Rattle.text.specs.Limit.{is_none}
use Rattle.text.specs.Line.{Laid, entry_text, closer, numbers_text}
use Rattle.ground.proofs.Booleans.{by_test}
use Rattle.ground.proofs.Stores.{drop_more}
use Rattle.text.proofs.Number.{length_digits_ten}
use Rattle.text.proofs.Limits.{limit_at, limits_more, limits_end}
use Rattle.text.proofs.Laid.{laid_none, laid_more, laid_byte}

-- ---- one number

pub length_entry_ten : (l : Limit) (n : ℕ) → n < eleven_digits → length (entry_text l n) ≤ 10
length_entry_ten l n h =
    by_test (is_none l n) (λ d. rw d (omega arith)) (λ d. rw d (length_digits_ten n h))

-- ---- numbers

numbers_none : (ls : List Limit) → numbers_text ls [] ≡ []
unfolding numbers_text
numbers_none [] = refl
numbers_none (l ∷ ls) = refl

-- only the first numbers are written
closer_take : (ls : List Limit) (ns : List ℕ) → closer ls (take (length ls) ns) ≡ closer ls ns
closer_take [] ns = refl
closer_take (l ∷ ls) [] = refl
closer_take (l ∷ ls) (n ∷ ns) = refl

pub numbers_take : (ls : List Limit) (ns : List ℕ) → numbers_text ls (take (length ls) ns) ≡ numbers_text ls ns
unfolding numbers_text
numbers_take [] ns = refl
numbers_take (l ∷ ls) [] = refl
numbers_take (l ∷ ls) (n ∷ ns) = rw (closer_take ls ns, numbers_take ls ns)

-- ---- the loop

-- there are as many numbers as limits, or more
closer_left : (ls : List Limit) (ns : List ℕ) → length ls ≤ length ns
    → closer ls ns ≡ cond (eqb (length ls) 0) feed tab
closer_left [] ns h = refl
closer_left (l ∷ ls) [] h = absurd (omega arith)
closer_left (l ∷ ls) (n ∷ ns) h = rw (lib.Dec.eqb-suc-zero (length ls))

closer_after : (table : List Limit) (ns : List ℕ) (k : ℕ) → length table ≤ length ns
    → closer (drop (k + 1) table) (drop (k + 1) ns)
    ≡ cond (eqb (length table - k - 1) 0) feed tab
closer_after table ns k h =
    let n : length table - (k + 1) ≡ length table - k - 1 = omega arith in
    let m : length (drop (k + 1) table) ≡ length table - k - 1 = rw (length-drop, n) in
    closer_left (drop (k + 1) table) (drop (k + 1) ns) (omega (arith, m, length-drop (k + 1) ns)) ∙ rw m

-- the text of the numbers from place k on
abbrev pub text_from : List Limit → List ℕ → ℕ → List ℕ
text_from table ns k = numbers_text (drop k table) (drop k ns)

-- k numbers are laid, from start up to `at`
pub record State (table : List Limit) (ns o₀ o : List ℕ) (start k at : ℕ) : Type 0 where
  pub so : List ℕ
  pub most : at ≤ start + 11 * k
  pub laid : Laid so o₀ start at o
  pub so_far : numbers_text table ns ≡ so ++ text_from table ns k

pub begin : (table : List Limit) (ns o : List ℕ) (start : ℕ) → State table ns o o start 0 start
begin table ns o start =
    record { so = []; most = omega arith; laid = laid_none o start; so_far = refl }

module _ {table : List Limit} {ns o₀ o : List ℕ} {start k at : ℕ} (s : State table ns o₀ o start k at) where
  -- no limit is left
  pub done : length table ≤ k → Laid (numbers_text table ns) o₀ start at o
  unfolding numbers_text
  done h =
      let none : text_from table ns k ≡ [] = rw (limits_end table k h) in
      rw (s.so_far, none, append-nil) s.laid

  pub step : {mid e : ℕ} {o₁ : List ℕ}
      → k < length table
      → length table ≤ length ns
      → get_or ns k 0 < eleven_digits
      → e ≡ cond (eqb (length table - k - 1) 0) feed tab
      → Laid (entry_text (limit_at table k) (get_or ns k 0)) o at mid o₁
      → State table ns o₀ (set o₁ mid e) start (k + 1) (mid + 1)
  unfolding numbers_text
  step {mid} {e} {o₁} h l n w p =
      record {
        so = s.so ++ (entry_text (limit_at table k) (get_or ns k 0) ++ (e ∷ []));
        most = omega (arith, p.end, s.most, length_entry_ten (limit_at table k) (get_or ns k 0) n);
        laid = laid_more s.laid (laid_more p (laid_byte o₁ mid e));
        so_far = s.so_far
            ∙ rw (limits_more table k h, drop_more ns k (omega arith), closer_after table ns k l, w)
            (simp append_assoc);
      }
