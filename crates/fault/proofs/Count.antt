-- How many lines a part may still have, step by step: of `left` at most and `need` at least, one was read or none is
-- there.
use mathlib.Core.Path.{◌≡◌, refl, sym, ◌∙◌}
use mathlib.Core.Bool.{true}
use mathlib.Core.Logic.{inl}
use mathlib.Core.List.{List, [], ◌∷◌, ◌++◌}
use mathlib.Core.Option.{none, some, none-ne-some}
use Prim.Native.Nat.{ℕ, zero, suc, ◌-◌, ◌≤◌, ◌<◌}
use native.Mathlib.Omega.{arith}
use lib.ListN.{length, take}
use Rattle.text.specs.Line.{Line}
use Rattle.form.specs.Parts.{Part}
use Rattle.form.specs.Reading.{kind_at}
use Rattle.form.proofs.Letters.{kinds_made}
use Rattle.fault.specs.Rules.{Rule, OneThen, LinesThen, PartThen}
use Rattle.fault.specs.Faulty.{Faulty}
use Rattle.fault.proofs.Rules.{Some}
use Rattle.fault.proofs.Line.{some_line}
use Rattle.fault.proofs.Choice.{first_start, Agree}
use Rattle.fault.proofs.OneOf.{kind_first, one_known}
use Rattle.fault.proofs.Rest.{one_rest}

-- no text by S begins as a line of the kinds
abbrev pub Away : List Line → Rule → Type 0
Away kinds S = (x : List ℕ) → S x → kind_at kinds x ≡ none

-- the part of which `left` lines at most and `need` at least are to come
abbrev pub still : Part → ℕ → ℕ → Part
still p left need = record { least = need; most = left; rising = p.rising; kinds = p.kinds }

-- there can be so many lines and then a text by S, and it is told where they end
pub record Fits (p : Part) (left need : ℕ) (S : Rule) : Type 0 where
  pub made : kinds_made p.kinds ≡ true
  pub room : need ≤ left
  pub kind : 0 < need → 0 < length p.kinds
  pub more : Some S
  pub away : need < left → Away p.kinds S

pub fits_next : {p : Part} {left need : ℕ} {S : Rule} → Fits p (suc left) need S → Fits p left (need - 1) S
fits_next f =
    record {
      made = f.made;
      room = omega (arith, f.room);
      kind = λ h. f.kind (omega arith);
      more = f.more;
      away = λ h. f.away (omega arith);
    }

-- ---- there is such a text

some_one : {S : Rule} (kinds : List Line) → 0 < length kinds → Some S → Some (OneThen kinds S)
some_one [] h s = absurd (omega arith)
some_one (l ∷ ls) h s = let a = some_line l s in record { rest = a.rest; whole = inl a.whole }

some_lines_lem : {S : Rule} (kinds : List Line) (n : ℕ) → (0 < n → 0 < length kinds) → Some S → Some (LinesThen kinds n S)
some_lines_lem kinds zero h s = s
some_lines_lem kinds (suc n) h s = some_one kinds (h (omega arith)) (some_lines_lem kinds n (λ k. h (omega arith)) s)

pub some_part : {p : Part} {left need : ℕ} {S : Rule} → Fits p left need S → Some (PartThen (still p left need) S)
some_part {p} {left} {need} f =
    let a = some_lines_lem p.kinds need f.kind f.more in
    record {
      rest = a.rest;
      whole = record { count = need; enough = omega arith; few = omega (arith, f.room); by = a.whole };
    }

module _ (p : Part) (S : Rule) (t : List ℕ) where
  -- ---- no line comes, or none may

  none_one : (n : ℕ) (x : List ℕ) → kinds_made p.kinds ≡ true
      → kind_at p.kinds x ≡ none
      → LinesThen p.kinds n S x
      → n ≡ 0
  none_one zero x m e w = refl
  none_one (suc n) x m e w = absurd (one_known (LinesThen p.kinds n S) p.kinds x m w e)

  pub agree_stop : (left : ℕ) → kinds_made p.kinds ≡ true
      → (0 < left → kind_at p.kinds t ≡ none)
      → Agree S (PartThen (still p left 0) S) t
  agree_stop left m e =
      record {
        wider = λ x s. record { count = 0; enough = omega arith; few = omega arith; by = s };
        same = λ x f w. go x (λ h. kind_first p.kinds x t f ∙ e h) w.count w.few w.by;
      }
    where
      go : (x : List ℕ) → (0 < left → kind_at p.kinds x ≡ none) → (n : ℕ) → n ≤ left → LinesThen p.kinds n S x
          → S x
      go x h zero a w = w
      go x h (suc n) a w = absurd (one_known (LinesThen p.kinds n S) p.kinds x m w (h (omega arith)))

  -- a line is missing: the text's first byte is at fault, or that there is none
  pub missing : (left need : ℕ) → 0 < need → Fits p left need S → kind_at p.kinds t ≡ none
      → Faulty (PartThen (still p left need) S) t 0
  missing left need n f e =
      record {
        inside = omega arith;
        wrong = λ w. wrong t e w;
        sound = some_part f;
        stuck = λ h b.
            let x : List ℕ = take 1 t ++ b.rest in
            wrong x (kind_first p.kinds x t (first_start 0 t b.rest h) ∙ e) b.whole;
      }
    where
      wrong : (x : List ℕ) → kind_at p.kinds x ≡ none → PartThen (still p left need) S x → ⊥
      wrong x h w = omega (arith, none_one w.count x f.made h w.by, w.enough)

  -- ---- a line comes

  pub agree_more : (left need : ℕ) (l : Line) → Fits p (suc left) need S
      → kind_at p.kinds t ≡ some l
      → Agree (OneThen p.kinds (PartThen (still p left (need - 1)) S)) (PartThen (still p (suc left) need) S) t
  agree_more left need l f e =
      record {
        wider = λ x w.
            let r = one_rest (PartThen (still p left (need - 1)) S) p.kinds x w in
            record {
              count = suc r.by.count;
              enough = omega (arith, r.by.enough);
              few = omega (arith, r.by.few);
              by = r.again (LinesThen p.kinds r.by.count S) r.by.by;
            };
        same = λ x g w. go x (kind_first p.kinds x t g ∙ e) w.count w.enough w.few w.by;
      }
    where
      go : (x : List ℕ) → kind_at p.kinds x ≡ some l → (n : ℕ) → need ≤ n → n ≤ suc left
          → LinesThen p.kinds n S x
          → OneThen p.kinds (PartThen (still p left (need - 1)) S) x
      go x h zero a b w = absurd (none-ne-some l (sym (f.away (omega arith) x w) ∙ h))
      go x h (suc n) a b w =
          let r = one_rest (LinesThen p.kinds n S) p.kinds x w in
          r.again (PartThen (still p left (need - 1)) S)
          (record { count = n; enough = omega arith; few = omega arith; by = r.by })
