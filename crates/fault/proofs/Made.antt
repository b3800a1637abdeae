-- Of forms that are well made and sayable there are texts.
use mathlib.Core.Path.{◌≡◌, refl, ◌∙◌}
use mathlib.Core.Bool.{true, ◌&&◌, ◌||◌}
use mathlib.Core.Logic.{inl, inr}
use mathlib.Core.List.{List, [], ◌∷◌}
use mathlib.Core.Option.{none}
use Prim.Native.Nat.{ℕ, zero, suc, ◌≤◌}
use borrow.Author.Tests.{leb-true, ltb-true, lt-leb, le-ltb}
use lib.Dec.{leb, ltb}
use lib.ListN.{length}
use Rattle.ground.proofs.Booleans.{both_hold}
use Rattle.text.specs.Line.{Line}
use Rattle.form.specs.Parts.{Part, letter_of, kind_of}
use Rattle.form.specs.Reading.{kind_at}
use Rattle.form.proofs.Letters.{absent, kinds_made}
use Rattle.form.proofs.Made.{absent_none, disjoint, apart, told, parts_made}
use Rattle.form.proofs.Trip.{told_apart}
use Rattle.fault.specs.Rules.{Rule, OneThen, LinesThen, PartsRule}
use Rattle.fault.proofs.Rules.{Some}
use Rattle.fault.proofs.Sayable.{can_be, sayable}
use Rattle.fault.proofs.OneOf.{distinct, line_kind}
use Rattle.fault.proofs.Count.{Away, Fits, some_part}

-- ---- parts that are apart have no text that begins as a line of the kinds

one_away : (S : Rule) (kinds ls : List Line) (x : List ℕ) → kinds_made ls ≡ true
    → disjoint kinds ls ≡ true
    → OneThen ls S x
    → kind_at kinds x ≡ none
unfolding disjoint
one_away S kinds [] x m d w = absurd w
one_away S kinds (l ∷ ls) x m d (inl w) =
    let a = both_hold (absent (kind_of kinds (letter_of l))) (disjoint kinds ls) d in
    line_kind S kinds l x (distinct l ls m).made w ∙ absent_none (kind_of kinds (letter_of l)) a.0
one_away S kinds (l ∷ ls) x m d (inr w) =
    let a = both_hold (absent (kind_of kinds (letter_of l))) (disjoint kinds ls) d in
    one_away S kinds ls x (distinct l ls m).rest a.1 w

parts_away : (kinds : List Line) (ps : List Part) → parts_made ps ≡ true → apart kinds ps ≡ true
    → Away kinds (PartsRule ps)
unfolding parts_made apart
parts_away kinds [] m a x w = rw w refl
parts_away kinds (p ∷ ps) m a x w =
    let ms = both_hold (kinds_made p.kinds) (told p ps && parts_made ps) m in
    let ns = both_hold (told p ps) (parts_made ps) ms.1 in
    let b = both_hold (disjoint kinds p.kinds) (ltb 0 p.least || apart kinds ps) a in
    go w.count w.enough w.by ms.0 b.0 b.1 (parts_away kinds ps ns.1)
  where
    go : (n : ℕ) → p.least ≤ n
        → LinesThen p.kinds n (PartsRule ps) x
        → kinds_made p.kinds ≡ true
        → disjoint kinds p.kinds ≡ true
        → (ltb 0 p.least || apart kinds ps) ≡ true
        → (apart kinds ps ≡ true → Away kinds (PartsRule ps))
        → kind_at kinds x ≡ none
    go zero h w k d b ih = ih (rw (le-ltb 0 p.least h) at b) x w
    go (suc n) h w k d b ih = one_away (LinesThen p.kinds n (PartsRule ps)) kinds p.kinds x k d w

-- ---- the parts of a form that is well made and sayable

pub record Able (p : Part) (ps : List Part) : Type 0 where
  pub fits : Fits p p.most p.least (PartsRule ps)
  pub made : parts_made ps ≡ true
  pub said : sayable ps ≡ true

able_more : (p : Part) (ps : List Part) → parts_made (p ∷ ps) ≡ true → sayable (p ∷ ps) ≡ true
    → Some (PartsRule ps)
    → Able p ps
unfolding parts_made sayable can_be
able_more p ps m s z =
    let ms = both_hold (kinds_made p.kinds) (told p ps && parts_made ps) m in
    let ns = both_hold (told p ps) (parts_made ps) ms.1 in
    let a = both_hold (can_be p) (sayable ps) s in
    let b = both_hold (leb p.least p.most) (leb p.least 0 || ltb 0 (length p.kinds)) a.0 in
    record {
      fits = record {
        made = ms.0;
        room = leb-true p.least p.most b.0;
        kind = λ h. ltb-true 0 (length p.kinds) (rw (lt-leb p.least 0 h) at b.1);
        more = z;
        away = λ h. parts_away p.kinds ps ns.1 (told_apart p ps h ns.0);
      };
      made = ns.1;
      said = a.1;
    }

some_parts : (ps : List Part) → parts_made ps ≡ true → sayable ps ≡ true → Some (PartsRule ps)
unfolding parts_made sayable
some_parts [] m s = record { rest = []; whole = refl }
some_parts (p ∷ ps) m s =
    let ms = both_hold (kinds_made p.kinds) (told p ps && parts_made ps) m in
    let ns = both_hold (told p ps) (parts_made ps) ms.1 in
    let a = both_hold (can_be p) (sayable ps) s in
    some_part (able_more p ps m s (some_parts ps ns.1 a.1)).fits

pub able : (p : Part) (ps : List Part) → parts_made (p ∷ ps) ≡ true → sayable (p ∷ ps) ≡ true → Able p ps
unfolding parts_made sayable
able p ps m s =
    let ms = both_hold (kinds_made p.kinds) (told p ps && parts_made ps) m in
    let ns = both_hold (told p ps) (parts_made ps) ms.1 in
    let a = both_hold (can_be p) (sayable ps) s in
    able_more p ps m s (some_parts ps ns.1 a.1)
