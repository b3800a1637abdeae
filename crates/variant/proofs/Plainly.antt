-- 02 (xi), on demand 3: two texts that are both right, put as the one that they make, say the same; what is refused
-- stays as it is, and so does which text is at fault.
use mathlib.Core.Path.{◌≡◌, refl, sym, ap, ◌∙◌}
use mathlib.Core.List.{List}
use Prim.Native.Nat.{ℕ}
use Rattle.form.specs.Parts.{Rows}
use Rattle.form.specs.Outcome.{Verdict, right, wrong}
use Rattle.form.proofs.Verdict.{wrong_not_right}
use Rattle.sheet.specs.SheetText.{read_sheet}
use Rattle.sheet.specs.TextCalls.{read_into}
use Rattle.variant.specs.Answered.{only_text, read_answer}
use Rattle.variant.specs.VariantText.{read_variant}
use Rattle.variant.specs.Joined.{joined_text}
use Rattle.variant.specs.Given.{Given, one_text, two_texts, read_given, text_at, plainly}
use Rattle.variant.proofs.Given.{parent_first, variant_next, both_read}

pub text_plainly : (g : Given) (n l b : ℕ) → read_given g ≡ wrong n l b → plainly g ≡ g
text_plainly (one_text t) n l b e = refl
text_plainly (two_texts parent variant) n l b e = go (read_sheet parent) (read_variant variant) refl refl
  where
    go : (p : Verdict (List ℕ)) (q : Verdict (List Rows)) → read_sheet parent ≡ p → read_variant variant ≡ q
        → plainly (two_texts parent variant) ≡ two_texts parent variant
    go (wrong m k c) q d f = rw (d, plainly) refl
    go (right s) (wrong m k c) d f = rw (d, f, plainly) refl
    go (right s) (right v) d f =
        let k = both_read parent variant s d v f in absurd (wrong_not_right (sym e ∙ k.read ∙ k.joined))

pub given_plainly : (g : Given) → read_given (plainly g) ≡ read_given g
given_plainly (one_text t) = refl
given_plainly (two_texts parent variant) = go (read_sheet parent) (read_variant variant) refl refl
  where
    go : (p : Verdict (List ℕ)) (q : Verdict (List Rows)) → read_sheet parent ≡ p → read_variant variant ≡ q
        → read_given (plainly (two_texts parent variant)) ≡ read_given (two_texts parent variant)
    go (wrong n l b) q d f =
        ap read_given (text_plainly (two_texts parent variant) n l b (parent_first parent variant n l b d).read)
    go (right s) (wrong n l b) d f =
        ap read_given (text_plainly (two_texts parent variant) n l b (variant_next parent variant s d n l b f).read)
    go (right s) (right v) d f = let k = both_read parent variant s d v f in ap read_given k.plain ∙ sym k.read

-- so reading two right texts answers, and leaves in what was lent, what reading the joined text does
pub read_joined : (parent variant s : List ℕ) (v : List Rows) (before : List ℕ) → read_sheet parent ≡ right s
    → read_variant variant ≡ right v
    → (read_answer (text_at (two_texts parent variant)) (read_given (two_texts parent variant))
    ≡ read_answer only_text (read_sheet (joined_text parent variant)))
    × (read_into (read_given (two_texts parent variant)) before ≡ read_into (read_sheet (joined_text parent variant)) before)
read_joined parent variant s v before p q =
    let k = both_read parent variant s p v q in (
      ap (read_answer (text_at (two_texts parent variant))) (k.read ∙ k.joined)
          ∙ sym (ap (read_answer only_text) k.joined),
      ap (λ (r : Verdict (List ℕ)). read_into r before) k.read,
    )
