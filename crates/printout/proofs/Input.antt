-- Laws of where the sheet in an input ends: byte by byte, and within the input.
use mathlib.Core.Path.{◌≡◌, refl, sym, ap, ◌∙◌}
use mathlib.Core.Bool.{Bool, true, false, true≢false, ◌&&◌}
use mathlib.Core.List.{List, [], ◌∷◌}
use Prim.Native.Nat.{ℕ, suc, ◌+◌, ◌-◌, ◌≤◌, ◌<◌}
use native.Mathlib.Numerals.{add-one}
use native.Mathlib.Omega.{arith}
use borrow.Author.Tests.{eq-eqb, ne_eqb, eqb-true}
use lib.Dec.{eqb}
use lib.ListN.{length, take, drop, get_or, length-drop, drop_of_length-le}
use lib.Seq.{drop-cons}
use Rattle.text.specs.Quoted.{feed}
use Rattle.text.specs.Field.{agreed}
use Rattle.ground.proofs.Stores.{rest_part}
use Rattle.text.proofs.Field.{agreed_fits}
use Rattle.ground.proofs.Booleans.{second_fails}
use Rattle.sheet.specs.Lines.{end_line}
use Rattle.printout.specs.Input.{sheet_bytes}

-- whether an END line stands at the start of t
abbrev ends : Bool → List ℕ → Bool
ends starting t = starting && eqb (agreed end_line.tag t) 4

ends_first : (starting : Bool) (b : ℕ) (t : List ℕ) → ends starting (b ∷ t) ≡ true → sheet_bytes starting (b ∷ t) ≡ 4
unfolding sheet_bytes
ends_first starting b t e = rw (e, sheet_bytes) refl

ends_later : (starting : Bool) (b : ℕ) (t : List ℕ) → ends starting (b ∷ t) ≡ false
    → sheet_bytes starting (b ∷ t) ≡ suc (sheet_bytes (eqb b feed) t)
unfolding sheet_bytes
ends_later starting b t e = rw (e, sheet_bytes) refl

-- ---- from a place of the input on

pub bytes_done : (starting : Bool) (t : List ℕ) (i : ℕ) → length t ≤ i → sheet_bytes starting (drop i t) ≡ 0
unfolding sheet_bytes
bytes_done starting t i h = rw (drop_of_length-le t {i = i} h) refl

module _ (starting : Bool) (t : List ℕ) (i : ℕ) (h : i < length t) where
  -- the sheet's bytes after the one at i
  abbrev later : ℕ
  later = sheet_bytes (eqb (get_or t i 0) feed) (drop (i + 1) t)

  more : ends starting (drop i t) ≡ false → sheet_bytes starting (drop i t) ≡ suc later
  more e =
      let d : drop i t ≡ get_or t i 0 ∷ drop (i + 1) t = rw (add-one i) (drop-cons t i 0 h) in
      ap (sheet_bytes starting) d ∙ ends_later starting (get_or t i 0) (drop (i + 1) t) (sym (ap (ends starting) d) ∙ e)

  pub bytes_inside : starting ≡ false → sheet_bytes starting (drop i t) ≡ suc later
  bytes_inside e = more (ap (λ (u : Bool). ends u (drop i t)) e)

  module _ {same : ℕ} (q : same ≡ agreed end_line.tag (take (length t - i) (drop i t))) where
    alike : same ≡ agreed end_line.tag (drop i t)
    alike = q ∙ ap (agreed end_line.tag) (rest_part t i)

    pub bytes_other : (same ≡ 4 → ⊥) → sheet_bytes starting (drop i t) ≡ suc later
    bytes_other n =
        let k : ℕ = agreed end_line.tag (drop i t) in
        more (second_fails starting (ne_eqb k 4 (λ (e : k ≡ 4). n (alike ∙ e))))

    pub end_in : same ≡ 4 → i + 4 ≤ length t
    end_in e = omega (arith, alike, agreed_fits end_line.tag (drop i t), length-drop i t)

    pub bytes_end : starting ≡ true → same ≡ 4 → sheet_bytes starting (drop i t) ≡ 4
    bytes_end s e =
        let d : drop i t ≡ get_or t i 0 ∷ drop (suc i) t = drop-cons t i 0 h in
        let f : ends starting (drop i t) ≡ true = rw s (eq-eqb (agreed end_line.tag (drop i t)) 4 (sym alike ∙ e)) in
        ap (sheet_bytes starting) d ∙ ends_first starting (get_or t i 0) (drop (suc i) t) (sym (ap (ends starting) d) ∙ f)

-- ---- the sheet's bytes are the input's

ends_fits : (starting : Bool) (t : List ℕ) → ends starting t ≡ true → 4 ≤ length t
ends_fits true t e = omega (arith, eqb-true (agreed end_line.tag t) 4 e, agreed_fits end_line.tag t)
ends_fits false t e = absurd (true≢false (sym e))

pub bytes_most : (starting : Bool) (t : List ℕ) → sheet_bytes starting t ≤ length t
unfolding sheet_bytes
bytes_most starting [] = omega arith
bytes_most starting (b ∷ t) = go (ends starting (b ∷ t)) refl (bytes_most (eqb b feed) t)
  where
    go : (u : Bool) → ends starting (b ∷ t) ≡ u
        → sheet_bytes (eqb b feed) t ≤ length t
        → sheet_bytes starting (b ∷ t) ≤ suc (length t)
    go true e ih = omega (arith, ends_first starting b t e, ends_fits starting (b ∷ t) e)
    go false e ih = omega (arith, ends_later starting b t e)
