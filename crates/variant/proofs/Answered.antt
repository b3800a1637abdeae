-- What reading one text or two answers: which text, and a refusal of the list.
use mathlib.Core.Path.{◌≡◌, refl}
use mathlib.Core.Bool.{true}
use mathlib.Core.Logic.{◌⊎◌, inl, inr}
use mathlib.Core.List.{[], ◌∷◌}
use Prim.Native.Nat.{ℕ}
use Rattle.variant.specs.Answered.{Answered, RefusedAt, only_text, parent_text, variant_text, is_listed}

texts_right : only_text ∷ parent_text ∷ variant_text ∷ [] ≡ 0 ∷ 1 ∷ 2 ∷ []
texts_right = refl

abbrev pub OfList : Answered → Type 0
OfList a = is_listed a ≡ true

pub text_listed : {number : ℕ} (line byte text : ℕ) → (number ≡ 2) ⊎ (number ≡ 3)
    → OfList (RefusedAt number line byte text)
text_listed line byte text (inl e) = rw e refl
text_listed line byte text (inr e) = rw e refl
