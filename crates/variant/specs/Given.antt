-- 02 (xi): what is given for a sheet: its text; or the texts of a parent and of a variant. Of two, the parent is judged
-- first, whole, as any sheet's text; then the variant by its own rules; and what they say is what the joined text says.
use Rattle.std.specs.Prelude.{ℕ, List}
use Rattle.form.specs.Outcome.{Verdict, right, wrong}
use Rattle.sheet.specs.SheetText.{read_sheet}
use Rattle.variant.specs.Answered.{only_text, parent_text, variant_text}
use Rattle.variant.specs.VariantText.{read_variant}
use Rattle.variant.specs.Joined.{joined_text}

pub data Given : Type 0 where
  one_text : List ℕ → Given
  two_texts : List ℕ → List ℕ → Given

-- one verdict, and where that is right the next
abbrev pub and_then : {A B : Type 0} → Verdict A → Verdict B → Verdict B
and_then (right a) next = next
and_then (wrong number line byte) next = wrong number line byte

abbrev pub read_given : Given → Verdict (List ℕ)
read_given (one_text t) = read_sheet t
read_given (two_texts parent variant) =
    and_then (read_sheet parent) (and_then (read_variant variant) (read_sheet (joined_text parent variant)))

-- which text has the place of a refusal
abbrev pub text_at : Given → ℕ
text_at (one_text t) = only_text
text_at (two_texts parent variant) = elim (read_sheet parent) [ right s ↦ variant_text | wrong n l b ↦ parent_text ]

-- two texts that are both right, as the one text that they make; any other as it is
abbrev pub plainly : Given → Given
plainly (one_text t) = one_text t
plainly (two_texts parent variant) =
    elim (and_then (read_sheet parent) (read_variant variant)) [
      | right rows ↦ one_text (joined_text parent variant)
      | wrong n l b ↦ two_texts parent variant
    ]
