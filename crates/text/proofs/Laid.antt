-- Bytes laid into a lent slice, one piece after the other.
use mathlib.Core.Path.{◌≡◌, refl, sym, ap, ◌∙◌}
use mathlib.Core.List.{List, [], ◌∷◌, ◌++◌}
use Prim.Native.Nat.{ℕ, ◌+◌, ◌-◌, ◌/◌, ◌%◌, ◌≤◌, ◌<◌, min}
use native.Mathlib.Omega.{arith}
use native.Mathlib.Nat.{add-zero}
use lib.ListN.{length, take, drop, set, length-append}
use lib.Seq.{sets, length-sets}
use Rattle.text.specs.Quoted.{digit0}
use Rattle.text.specs.Number.{digits_of}
use Rattle.text.specs.Line.{Laid}
use Rattle.ground.proofs.Stores.{put_back, sets_append, sets_min, rest_part, part_sets}
use Rattle.text.proofs.Number.{digits_small, digits_more}

pub laid_none : (o : List ℕ) (at : ℕ) → Laid [] o at at o
laid_none o at = record { end = sym (add-zero at); laid = refl }

-- a piece after a piece
pub laid_more : {bs ds o₀ o₁ o : List ℕ} {at mid r : ℕ}
    → Laid bs o₀ at mid o₁
    → Laid ds o₁ mid r o
    → Laid (bs ++ ds) o₀ at r o
laid_more {bs} {ds} {o₀} {o₁} {o} {at} {mid} {r} p q =
    record {
      end = omega (arith, p.end, q.end, length-append bs ds);
      laid = q.laid ∙ rw (p.laid, p.end, ← sets_append o₀ at bs ds);
    }

pub laid_byte : (o : List ℕ) (at b : ℕ) → Laid (b ∷ []) o at (at + 1) (set o at b)
laid_byte o at b = record { end = refl; laid = refl }

-- bytes laid from the start
pub laid_start : (bs o o₁ : List ℕ) → o₁ ≡ sets o 0 bs → Laid bs o 0 (length bs) o₁
laid_start bs o o₁ e = record { end = omega arith; laid = e }

-- bytes laid into the part from `at` on, seen from the whole
pub laid_part : (bs o ys : List ℕ) (at r : ℕ)
    → Laid bs (take (length o - at) (drop at o)) 0 r ys
    → Laid bs o at (at + r) (put_back o at ys)
laid_part bs o ys at r p =
    let e : ys ≡ sets (drop at o) 0 bs = p.laid ∙ rw (rest_part o at) in
    record { end = omega (arith, p.end); laid = rw e (part_sets o at bs) }

-- bytes laid into what is left from `at` on, which past the end is nothing and leaves the whole as it was
pub laid_left : {bs o ys : List ℕ} {at from r : ℕ}
    → from ≡ min at (length o)
    → Laid bs (take (length o - from) (drop from o)) 0 r ys
    → Laid bs o at (at + r) (put_back o from ys)
laid_left {bs} {o} {ys} {at} {from} {r} e p =
    record { end = omega (arith, p.end); laid = (laid_part bs o ys from r p).laid ∙ rw (e, sets_min o at bs) }

-- ---- a number

pub laid_digit : (n : ℕ) (o₀ o : List ℕ) → n < 10 → o ≡ set o₀ 0 (digit0 + n) → Laid (digits_of n) o₀ 0 1 o
laid_digit n o₀ o h e = record { end = rw (digits_small n h); laid = e ∙ rw (digits_small n h) }

pub laid_digits : (n : ℕ) (o₀ o₁ o : List ℕ) (mid : ℕ)
    → 10 ≤ n
    → Laid (digits_of (n / 10)) o₀ 0 mid o₁
    → o ≡ set o₁ mid (digit0 + n % 10)
    → Laid (digits_of n) o₀ 0 (mid + 1) o
laid_digits n o₀ o₁ o mid h p e = rw (digits_more n h, e) (laid_more p (laid_byte o₁ mid (digit0 + n % 10)))

-- what is laid keeps the length
pub laid_length : {bs o₀ o : List ℕ} {at r : ℕ} → Laid bs o₀ at r o → length o ≡ length o₀
laid_length p = ap length p.laid ∙ simp length-sets

-- the text of the numbers from a place on, written into the part from `at` on
pub laid_rest : (text : List ℕ → List ℕ) (s o : List ℕ) (from at : ℕ) {r : ℕ} {ys : List ℕ}
    → Laid (text (take (length s - from) (drop from s))) (take (length o - at) (drop at o)) 0 r ys
    → Laid (text (drop from s)) o at (at + r) (put_back o at ys)
laid_rest text s o from at {r} {ys} p = laid_part (text (drop from s)) o ys at r (rw (rest_part s from) at p)
