-- 02 (xi), what one text or two give: of two the parent is judged first, then the variant, and the answer says which;
-- both right give what the joined text says. So what is given is refused as a text is, and read as a text is.
use mathlib.Core.Path.{◌≡◌, refl, ap}
use mathlib.Core.Bool.{true}
use mathlib.Core.List.{List}
use mathlib.Core.Logic.{◌⊎◌}
use Prim.Native.Nat.{ℕ, ◌+◌, ◌≤◌, ◌<◌}
use native.Mathlib.Omega.{arith}
use lib.ListN.{length}
use Rattle.ground.proofs.Booleans.{false_true}
use Rattle.answers.specs.Refusals.{broken_line}
use Rattle.form.specs.Parts.{Form, Rows}
use Rattle.form.specs.Outcome.{Verdict, right, wrong, saying}
use Rattle.form.specs.Reading.{read_form}
use Rattle.form.proofs.Verdict.{wrong_not_right, saying_right, form_most}
use Rattle.form.proofs.Faults.{form_fault}
use Rattle.sheet.specs.Lines.{most_bytes}
use Rattle.sheet.specs.Places.{text_words}
use Rattle.sheet.specs.Sheet.{sheet_ok}
use Rattle.sheet.specs.SheetText.{sheet_form, sheet_of, read_sheet}
use Rattle.sheet.specs.TextCalls.{read_into}
use Rattle.variant.specs.Answered.{parent_text, variant_text, read_answer, is_refusal}
use Rattle.variant.proofs.Answered.{OfList, text_listed}
use Rattle.sheet.proofs.SheetText.{reads_written, sheet_count}
use Rattle.sheet.proofs.Places.{sheet_places, rooms_right}
use Rattle.variant.specs.VariantText.{variant_form, read_variant}
use Rattle.variant.specs.Joined.{joined_text}
use Rattle.variant.specs.JoinedRows.{joined_rows}
use Rattle.variant.specs.Given.{Given, one_text, two_texts, and_then, read_given, text_at, plainly}
use Rattle.variant.proofs.JoinedSheet.{joined_said}
use Rattle.variant.proofs.WellMade.{variant_places, room_right}

-- ---- two texts, in order

-- what is given is refused, with the place in this of the texts
pub record RefusedIn (text number line byte : ℕ) (g : Given) : Type 0 where
  pub read : read_given g ≡ wrong number line byte
  pub which : text_at g ≡ text

-- two texts are both right: so is the one that they make, what they say is what it says, and so they are put plainly
pub record BothRight (parent variant : List ℕ) : Type 0 where
  pub sheet : List ℕ
  pub joined : read_sheet (joined_text parent variant) ≡ right sheet
  pub read : read_given (two_texts parent variant) ≡ read_sheet (joined_text parent variant)
  pub plain : plainly (two_texts parent variant) ≡ one_text (joined_text parent variant)

module _ (parent variant : List ℕ) where
  pub parent_first : (n l b : ℕ) → read_sheet parent ≡ wrong n l b → RefusedIn parent_text n l b (two_texts parent variant)
  parent_first n l b e = record { read = rw e refl; which = rw (e, text_at) refl }

  pub parent_long : 4096 < length parent → RefusedIn parent_text broken_line 0 0 (two_texts parent variant)
  parent_long h = parent_first broken_line 0 0 (sheet_places.too_long parent (omega (arith, rooms_right.0)))

  module _ (s : List ℕ) (p : read_sheet parent ≡ right s) where
    pub variant_next : (n l b : ℕ) → read_variant variant ≡ wrong n l b
        → RefusedIn variant_text n l b (two_texts parent variant)
    variant_next n l b e = record { read = rw (p, e) refl; which = rw (p, text_at) refl }

    pub variant_long : 4096 < length variant → RefusedIn variant_text broken_line 0 0 (two_texts parent variant)
    variant_long h = variant_next broken_line 0 0 (variant_places.too_long variant (omega (arith, room_right)))

    joins : (v : List Rows) → read_variant variant ≡ right v
        → (u : List ℕ) × (read_sheet (joined_text parent variant) ≡ right u)
    unfolding read_sheet read_variant
    joins v e =
        let (ps, said, is) = saying_right sheet_of (read_form sheet_form parent) s p in
        let (w, own, same) = saying_right (λ (v : List Rows). v) (read_form variant_form variant) v e in
        (sheet_of (joined_rows ps w), ap (saying sheet_of) (joined_said parent variant ps w said own))

    pub both_read : (v : List Rows) → read_variant variant ≡ right v → BothRight parent variant
    both_read v e =
        let (u, said) = joins v e in
        record { sheet = u; joined = said; read = rw (p, e) refl; plain = rw (p, e, plainly) refl }

-- ---- one text or two: read, or refused, as a text is

-- what holds of one verdict and of the next holds of both
abbrev Told : {A : Type 0} → Verdict A → Type 0
Told (right a) = Unit {0}
Told (wrong n l b) = ((n ≡ 2) ⊎ (n ≡ 3)) × ((l ≤ most_bytes + 1) × (b ≤ most_bytes + 1))

then_told : {A B : Type 0} (p : Verdict A) (q : Verdict B) → Told p → Told q → Told (and_then p q)
then_told (right a) q h k = k
then_told (wrong n l b) q h k = h

form_told : {A : Type 0} (f : Form) (h : List Rows → A) (t : List ℕ) → f.room ≡ most_bytes
    → Told (saying h (read_form f t))
form_told f h t e = go (read_form f t) refl
  where
    go : (q : Verdict (List Rows)) → read_form f t ≡ q → Told (saying h q)
    go (right v) d = tt
    go (wrong n l b) d = (form_fault f t n l b d, rw e at (form_most f t n l b d))

given_told : (g : Given) → Told (read_given g)
unfolding read_sheet read_variant sheet_form variant_form
given_told (one_text t) = form_told sheet_form sheet_of t refl
given_told (two_texts parent variant) =
    then_told (read_sheet parent) _ (form_told sheet_form sheet_of parent refl)
    (then_told (read_variant variant) _ (form_told variant_form (λ (v : List Rows). v) variant refl)
    (form_told sheet_form sheet_of (joined_text parent variant) refl))

module _ (g : Given) (n l b : ℕ) (e : read_given g ≡ wrong n l b) where
  pub given_fault : (n ≡ 2) ⊎ (n ≡ 3)
  given_fault = (rw e at (given_told g)).0

  pub given_most : (l ≤ most_bytes + 1) × (b ≤ most_bytes + 1)
  given_most = (rw e at (given_told g)).1

then_right : {A B : Type 0} (p : Verdict A) (q : Verdict B) (b : B) → and_then p q ≡ right b → q ≡ right b
then_right (right a) q b e = e
then_right (wrong n l k) q b e = absurd (wrong_not_right e)

given_right : (g : Given) (s : List ℕ) → read_given g ≡ right s → (t : List ℕ) × (read_sheet t ≡ right s)
given_right (one_text t) s e = (t, e)
given_right (two_texts parent variant) s e =
    (joined_text parent variant, then_right (read_variant variant) _ s (then_right (read_sheet parent) _ s e))

module _ (g : Given) (s : List ℕ) (e : read_given g ≡ right s) where
  pub given_within : sheet_ok s ≡ true
  given_within = let (t, r) = given_right g s e in (reads_written t s r).within

  pub given_count : length s ≡ text_words
  given_count = let (t, r) = given_right g s e in sheet_count t s r

-- ---- answered: by the list, and a refusal leaves what was lent

pub given_listed : (g : Given) → OfList (read_answer (text_at g) (read_given g))
given_listed g = go (read_given g) refl
  where
    go : (q : Verdict (List ℕ)) → read_given g ≡ q → OfList (read_answer (text_at g) q)
    go (right s) e = refl
    go (wrong n l b) e = text_listed l b (text_at g) (given_fault g n l b e)

pub given_refused : (g : Given) (before : List ℕ) → is_refusal (read_answer (text_at g) (read_given g)) ≡ true
    → read_into (read_given g) before ≡ before
given_refused g before = go (read_given g)
  where
    go : (q : Verdict (List ℕ)) → is_refusal (read_answer (text_at g) q) ≡ true → read_into q before ≡ before
    go (right s) e = false_true e
    go (wrong n l b) e = refl
