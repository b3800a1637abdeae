-- What was found, piece after piece.
use mathlib.Core.Path.{◌≡◌, refl, sym, ap, ◌∙◌}
use mathlib.Core.List.{List, [], ◌∷◌, ◌++◌, append-nil, append_assoc}
use Prim.Native.Nat.{ℕ, ◌+◌}
use native.Mathlib.Nat.{add-zero, zero-add, add_assoc}
use native.Mathlib.Omega.{arith}
use Rattle.text.specs.Read.{Taken, Fault}
use Rattle.text.specs.Read.{shift_by}
use Rattle.form.specs.Outcome.{Found, took, lost, mapped, ahead}
use Rattle.reading.specs.Filled.{ended_as, Filled}
use Rattle.reading.specs.Steps.{onward}

module _ {A : Type 0} where
  -- ---- by how the reading ended

  pub found_taken : (f : Found A) {k : ℕ} → Taken k ≡ ended_as f → (a : A) × (f ≡ took k a)
  found_taken (took j a) e = (a, cc)
  found_taken (lost number at) e = let z : ◌≡◌ {A = ℕ} 0 1 = cc in absurd (omega arith)

  pub found_fault : (f : Found A) {number at : ℕ} → Fault number at ≡ ended_as f → f ≡ lost number at
  found_fault (took j a) e = let z : ◌≡◌ {A = ℕ} 0 1 = cc in absurd (omega arith)
  found_fault (lost m i) e = cc

  pub ended_mapped : {B : Type 0} (g : A → B) (f : Found A) → ended_as (mapped g f) ≡ ended_as f
  ended_mapped g (took k a) = refl
  ended_mapped g (lost number at) = refl

  -- ---- one after another

  pub onward_none : (f : Found (List A)) → onward [] 0 f ≡ f
  onward_none (took k xs) = rw (zero-add k)
  onward_none (lost number at) = rw (zero-add at)

  pub onward_twice : (xs ys : List A) (j k : ℕ) (f : Found (List A))
      → onward xs j (onward ys k f) ≡ onward (xs ++ ys) (j + k) f
  onward_twice xs ys j k (took i zs) = rw (add_assoc j k i, append_assoc xs ys zs)
  onward_twice xs ys j k (lost number at) = rw (add_assoc j k at)

  pub onward_end : (xs : List A) (k : ℕ) → onward xs k (took 0 []) ≡ took k xs
  onward_end xs k = rw (add-zero k, append-nil xs)

  pub ahead_onward : (k : ℕ) (a : A) (f : Found (List A)) → ahead k a f ≡ onward (a ∷ []) k f
  ahead_onward k a (took j xs) = refl
  ahead_onward k a (lost number at) = refl

  pub ended_onward : (xs : List A) (k : ℕ) (f : Found (List A)) → shift_by k (ended_as f) ≡ ended_as (onward xs k f)
  ended_onward xs k (took j ys) = refl
  ended_onward xs k (lost number at) = refl

-- ---- what stands in the list

pub filled_fault : {f : Found (List ℕ)} {t o : List ℕ} {number at : ℕ} → Filled f t (Fault number at) o
    → f ≡ lost number at
filled_fault {f} p = found_fault f p.answer

pub filled_taken : {f : Found (List ℕ)} {t o : List ℕ} {k : ℕ} → Filled f t (Taken k) o → f ≡ took k o
filled_taken {f} {k = k} p = let e = found_taken f p.answer in e.1 ∙ ap (took k) (sym (rw e.1 at p.stored))
