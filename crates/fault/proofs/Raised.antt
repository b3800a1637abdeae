-- Raising a line's first limit leaves its rule as it was: limits are no line rules.
use mathlib.Core.Bool.{Bool, true, false}
use mathlib.Core.List.{List, [], ◌∷◌}
use Prim.Native.Nat.{ℕ}
use Rattle.text.specs.declared.Limit.{Limit}
use Rattle.text.specs.Line.{Line}
use Rattle.form.specs.Parts.{risen, raised}
use Rattle.fault.specs.Rules.{Rule, Just, Then, FieldsThen, LineThen}

-- whatever holds of the rule of a raised line holds of the line's own
pub unraised : (P : Rule → Type 0) (S : Rule) (up : Bool) (next : ℕ) (l : Line) → P (LineThen (raised up next l) S)
    → P (LineThen l S)
unraised P S up next l p = go up l.limits p
  where
    go : (up : Bool) (ls : List Limit) → P (Then (Just l.tag) (FieldsThen (risen up next ls) S))
        → P (Then (Just l.tag) (FieldsThen ls S))
    go false ls p = p
    go true [] p = p
    go true (l ∷ ls) p = p
