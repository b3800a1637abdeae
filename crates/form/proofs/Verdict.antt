-- What a whole text gives, by what was found from its start: it is too long, and then has no place; or it was read, and
-- what is refused has the line and the byte of the place found.
use mathlib.Core.Path.{◌≡◌, refl, sym, ap, ◌∙◌}
use mathlib.Core.Bool.{Bool, true, false}
use mathlib.Core.List.{List}
use Prim.Native.Nat.{ℕ, ◌+◌, ◌<◌, ◌≤◌}
use native.Mathlib.Omega.{arith}
use borrow.Author.Tests.{ltb-true, ltb-false, lt-ltb, le-ltb}
use lib.Dec.{ltb}
use lib.ListN.{length, take, drop, length-append, take-append-drop}
use lib.Seq.{take-length}
use Rattle.answers.specs.Refusals.{broken_line}
use Rattle.text.specs.Place.{line_at, byte_at}
use Rattle.text.proofs.Place.{line_bounds, byte_bounds}
use Rattle.form.specs.Parts.{Form, Rows}
use Rattle.form.specs.Outcome.{Found, took, lost, mapped, Verdict, right, wrong, placed, saying}
use Rattle.form.specs.Reading.{read_parts, read_form}

pub wrong_not_right : {A : Type 0} {number line byte : ℕ} {a : A} → wrong number line byte ≡ right a → ⊥
wrong_not_right e = let z : ◌≡◌ {A = ℕ} 0 1 = cc in absurd (omega arith)

-- ---- what was said is said of what was found

pub placed_right : {A : Type 0} (t : List ℕ) (q : Found A) (a : A) → placed t q ≡ right a → (k : ℕ) × (q ≡ took k a)
placed_right t (took k b) a e = (k, cc)
placed_right t (lost number at) a e = absurd (wrong_not_right e)

pub saying_right : {A B : Type 0} (f : A → B) (q : Verdict A) (b : B) → saying f q ≡ right b
    → (a : A) × (q ≡ right a) × (b ≡ f a)
saying_right f (right a) b e = (a, refl, cc)
saying_right f (wrong number line byte) b e = absurd (wrong_not_right e)

pub saying_wrong : {A B : Type 0} (f : A → B) (q : Verdict A) (number line byte : ℕ)
    → saying f q ≡ wrong number line byte
    → q ≡ wrong number line byte
saying_wrong f (right a) number line byte e = absurd (wrong_not_right (sym e))
saying_wrong f (wrong n l b) number line byte e = cc

-- ---- a text of a form

module _ (f : Form) (t : List ℕ) where
  pub form_long : f.room < length t → read_form f t ≡ wrong broken_line 0 0
  unfolding read_form
  form_long h = rw (lt-ltb f.room (length t) h)

  pub form_read : length t ≤ f.room → read_form f t ≡ placed t (read_parts f.parts t)
  unfolding read_form
  form_read h = rw (le-ltb f.room (length t) h)

  -- and what is made of what it says
  pub form_said : {A : Type 0} (g : List Rows → A) → length t ≤ f.room
      → saying g (read_form f t) ≡ placed t (mapped g (read_parts f.parts t))
  form_said {A} g h = rw (form_read h) (go (read_parts f.parts t))
    where
      go : (q : Found (List Rows)) → saying g (placed t q) ≡ placed t (mapped g q)
      go (took k v) = refl
      go (lost number at) = refl

  -- a text that says something was found whole
  pub form_right : (v : List Rows) → read_form f t ≡ right v → (k : ℕ) × (read_parts f.parts t ≡ took k v)
  form_right v e = go (ltb f.room (length t)) refl
    where
      go : (u : Bool) → ltb f.room (length t) ≡ u → (k : ℕ) × (read_parts f.parts t ≡ took k v)
      go true d = absurd (wrong_not_right (sym (form_long (ltb-true f.room (length t) d)) ∙ e))
      go false d =
          placed_right t (read_parts f.parts t) v (sym (form_read (ltb-false f.room (length t) d)) ∙ e)

  -- the refusal of a text that is read, by the place of it
  pub record FoundAt (number line byte : ℕ) : Type 0 where
    pub at : ℕ
    pub found : read_parts f.parts t ≡ lost number at
    pub on_line : line ≡ line_at t at
    pub on_byte : byte ≡ byte_at t at

  pub form_wrong : (number line byte : ℕ) → length t ≤ f.room
      → read_form f t ≡ wrong number line byte
      → FoundAt number line byte
  form_wrong number line byte h e = go (read_parts f.parts t) refl (sym (form_read h) ∙ e)
    where
      go : (q : Found (List Rows)) → read_parts f.parts t ≡ q
          → placed t q ≡ wrong number line byte
          → FoundAt number line byte
      go (took k v) d c = absurd (wrong_not_right (sym c))
      go (lost n at) d c =
          let same : n ≡ number = cc in
          record { at = at; found = d ∙ rw same; on_line = cc; on_byte = cc }

  -- line 0 is that of a text too long, and of no other
  pub no_line : (number byte : ℕ) → read_form f t ≡ wrong number 0 byte → f.room < length t
  no_line number byte e = go (ltb f.room (length t)) refl
    where
      go : (u : Bool) → ltb f.room (length t) ≡ u → f.room < length t
      go true d = ltb-true f.room (length t) d
      go false d =
          let p = form_wrong number 0 byte (ltb-false f.room (length t) d) e in
          absurd (omega (arith, p.on_line))

-- ---- how great a line and a byte are

place_most : (t : List ℕ) (k : ℕ) → (line_at t k ≤ length t + 1) × (byte_at t k ≤ length t + 1)
place_most t k =
    let x : List ℕ = take k t in
    let few : length x ≤ length t = omega (arith, ap length (take-append-drop k t), length-append x (drop k t)) in
    let all : take (length x) x ≡ x = take-length x in
    let on_line : line_at t k ≤ length x + 1 = rw all at (line_bounds x (length x)).1 in
    let on_byte : byte_at t k ≤ length x + 1 = rw all at (byte_bounds x (length x)).1 in
    (omega arith, omega arith)

pub form_most : (f : Form) (t : List ℕ) (number line byte : ℕ) → read_form f t ≡ wrong number line byte
    → (line ≤ f.room + 1) × (byte ≤ f.room + 1)
form_most f t number line byte e = go (ltb f.room (length t)) refl
  where
    go : (u : Bool) → ltb f.room (length t) ≡ u → (line ≤ f.room + 1) × (byte ≤ f.room + 1)
    go true d =
        let c : wrong broken_line 0 0 ≡ wrong number line byte =
        sym (form_long f t (ltb-true f.room (length t) d)) ∙ e in
        let on_line : 0 ≡ line = cc in
        let on_byte : 0 ≡ byte = cc in
        (omega arith, omega arith)
    go false d =
        let h = ltb-false f.room (length t) d in
        let p = form_wrong f t number line byte h e in
        let low = place_most t p.at in
        (omega (arith, p.on_line, low.0), omega (arith, p.on_byte, low.1))
