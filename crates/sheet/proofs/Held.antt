-- Numbers on several lines, each line judged by itself, are judged alike in one run: only a limit that caps a number
-- or counts one looks back at the number before, and no line starts with such a limit.
use mathlib.Core.Path.{◌≡◌, refl, sym, ap, ◌∙◌}
use mathlib.Core.Bool.{Bool, true, not, ◌&&◌, ◌||◌, and_assoc}
use mathlib.Core.List.{List, [], ◌∷◌, ◌++◌}
use Prim.Native.Nat.{ℕ, ◌+◌, ◌≤◌}
use native.Mathlib.Omega.{arith}
use lib.ListN.{length, take, drop, length-append, length-drop}
use lib.Seq.{take-add, drop-drop, length-take-le}
use Rattle.text.specs.declared.Limit.{Limit}
use Rattle.text.specs.declared.Rule.{Rule}
use Rattle.text.specs.declared.Rule.TheVariants.{Plain, OrNone, Capped, Product}
use Rattle.text.specs.Limit.{capped, counts, by_rule, holds, all_hold}
use Rattle.text.specs.Line.{Line}
use Rattle.ground.proofs.Booleans.{both_hold, false_true}
use Rattle.sheet.specs.Lines.{fittings}
use Rattle.sheet.specs.Sheet.{limits_on, fits_ok, ok_on}

-- ---- limits that do not look back

unfoldable pub opens : List Limit → Bool
opens [] = true
opens (l ∷ ls) = not (capped l.rule || counts l.rule)

by_free : (r : Rule) (a b n : ℕ) → not (capped r || counts r) ≡ true → by_rule r a n ≡ by_rule r b n
by_free Plain a b n e = refl
by_free OrNone a b n e = refl
by_free Capped a b n e = false_true e
by_free (Product top) a b n e = false_true e

holds_free : (l : Limit) (a b n : ℕ) → not (capped l.rule || counts l.rule) ≡ true → holds l a n ≡ holds l b n
holds_free l a b n e = rw (by_free l.rule a b n e)

hold_free : (ls : List Limit) (a b : ℕ) (ns : List ℕ) → opens ls ≡ true → all_hold ls a ns ≡ all_hold ls b ns
unfolding opens all_hold
hold_free [] a b [] e = refl
hold_free [] a b (n ∷ ns) e = refl
hold_free (l ∷ ls) a b [] e = refl
hold_free (l ∷ ls) a b (n ∷ ns) e = ap (λ (u : Bool). u && all_hold ls n ns) (holds_free l a b n e)

-- numbers by two lists of limits, of which the second does not look back
pub hold_parts : (ls ms : List Limit) (last : ℕ) (xs ys : List ℕ) → length xs ≡ length ls → opens ms ≡ true
    → all_hold (ls ++ ms) last (xs ++ ys) ≡ (all_hold ls last xs && all_hold ms 0 ys)
unfolding all_hold
hold_parts [] ms last [] ys e f = hold_free ms last 0 ys f
hold_parts [] ms last (x ∷ xs) ys e f = absurd (omega arith)
hold_parts (l ∷ ls) ms last [] ys e f = absurd (omega arith)
hold_parts (l ∷ ls) ms last (x ∷ xs) ys e f =
    ap (λ (b : Bool). holds l last x && b) (hold_parts ls ms x xs ys (omega arith) f)
    ∙ sym (and_assoc (holds l last x) (all_hold ls x xs) (all_hold ms 0 ys))

-- ---- lines that do not

unfoldable pub lines_open : List Line → Bool
lines_open [] = true
lines_open (l ∷ ls) = opens l.limits && lines_open ls

joined_open : (ls ms : List Limit) → opens ls ≡ true → opens ms ≡ true → opens (ls ++ ms) ≡ true
unfolding opens
joined_open [] ms a b = b
joined_open (l ∷ ls) ms a b = a

limits_open : (ls : List Line) → lines_open ls ≡ true → opens (limits_on ls) ≡ true
unfolding lines_open opens limits_on
limits_open [] h = refl
limits_open (l ∷ ls) h =
    let p = both_hold (opens l.limits) (lines_open ls) h in
    joined_open l.limits (limits_on ls) p.0 (limits_open ls p.1)

-- in one run
pub ok_run : (ls : List Line) (s : List ℕ) → lines_open ls ≡ true → length (limits_on ls) ≤ length s
    → ok_on ls s
    ≡ (all_hold (limits_on ls) 0 (take (length (limits_on ls)) s) && fits_ok fittings (drop (length (limits_on ls)) s))
unfolding ok_on limits_on lines_open all_hold
ok_run [] s o h = refl
ok_run (l ∷ ls) s o h =
    let n : ℕ = length l.limits in
    let m : ℕ = length (limits_on ls) in
    let k : length (l.limits ++ limits_on ls) ≡ n + m = length-append l.limits (limits_on ls) in
    let os = both_hold (opens l.limits) (lines_open ls) o in
    let first = length-take-le n s (omega (arith, k)) in
    let both =
    hold_parts l.limits (limits_on ls) 0 (take n s) (take m (drop n s)) first (limits_open ls os.1) in
    let rest = ok_run ls (drop n s) os.1 (omega (arith, k, length-drop n s)) in
    let a : Bool = all_hold l.limits 0 (take n s) in
    let b : Bool = all_hold (limits_on ls) 0 (take m (drop n s)) in
    let c : Bool = fits_ok fittings (drop m (drop n s)) in
    ap (λ (u : Bool). a && u) rest
    ∙ sym (and_assoc a b c)
    ∙ rw (k, take-add n m s, both, ← drop-drop m n s)
