-- A promise allows one outcome; a refusal is of the list, and has a place or none.
use mathlib.Core.Path.{◌≡◌, refl, sym, ◌∙◌}
use mathlib.Core.Bool.{true, false}
use mathlib.Core.Logic.{◌⊎◌, inl, inr}
use Prim.Native.Nat.{ℕ}
use Rattle.answers.specs.Answer.{Answer}
use Rattle.answers.specs.Answer.{RefusedAt}
use Rattle.answers.specs.Values.{is_listed, is_placed}
use Rattle.answers.specs.Settled.{Settled}

-- two outcomes that a promise allows are equal
pub one_outcome : {A B : Type 0} {answer r q : A} {buffers x y : B}
    → Settled answer buffers r x
    → Settled answer buffers q y
    → (r ≡ q) × (x ≡ y)
one_outcome p q = (p.answered ∙ sym q.answered, p.kept ∙ sym q.kept)

abbrev pub OfList : Answer → Type 0
OfList a = is_listed a ≡ true

-- the refusals of a text are
pub text_listed : {number : ℕ} (line byte : ℕ) → (number ≡ 2) ⊎ (number ≡ 3) → OfList (RefusedAt number line byte)
text_listed line byte (inl e) = rw e refl
text_listed line byte (inr e) = rw e refl

-- an answer without a place
abbrev pub Unplaced : Answer → Type 0
Unplaced a = is_placed a ≡ false
