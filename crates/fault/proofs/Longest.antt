-- How long a text by the rules can be, whatever its numbers: ten digits and an end for each field.
use mathlib.Core.Path.{◌≡◌, ap, ◌∙◌}
use mathlib.Core.Logic.{inl, inr}
use mathlib.Core.List.{List, [], ◌∷◌}
use Prim.Native.Nat.{ℕ, zero, suc, ◌+◌, ◌*◌, ◌≤◌, max}
use native.Mathlib.Nat.{suc-mul, mul-le-mul}
use native.Mathlib.Omega.{arith}
use lib.ListN.{length, length-append}
use Rattle.text.specs.declared.Rule as Number
use Rattle.text.specs.Quoted.{feed}
use Rattle.text.specs.declared.Limit.{Limit}
use Rattle.text.specs.Line.{Line, ender}
use Rattle.text.proofs.Number.{length_digits_ten}
use Rattle.form.specs.Parts.{Part}
use Rattle.fault.specs.Rules.{Rule, Then, Field, in_digits, as_dash, Entry, FieldsThen, LineThen}
use Rattle.fault.specs.Rules.{OneThen, LinesThen, PartsRule}

-- a text by R has at most n bytes
abbrev Within : Rule → ℕ → Type 0
Within R n = (t : List ℕ) → R t → length t ≤ n

then_longest : (R S : Rule) (n k : ℕ) → Within R n → Within S k → Within (Then R S) (n + k)
then_longest R S n k a b t w =
    let both : length t ≡ length w.one + length w.two =
    ap length w.joined ∙ length-append w.one w.two in
    omega (arith, both, a w.one w.by_one, b w.two w.by_two)

field_longest : (rule : Number.Rule) → Within (Field rule) 10
field_longest rule t (in_digits n) = rw n.written (length_digits_ten n.value n.few)
field_longest rule t (as_dash r e) = rw e (omega arith)

entry_longest : (rule : Number.Rule) (e : ℕ) → Within (Entry rule e) 11
entry_longest rule e t w =
    then_longest (Field rule) _ 10 1 (field_longest rule) (λ (x : List ℕ) w. rw w (omega arith)) t w

-- ---- each with a text by S after it, of at most k bytes

fields_longest : (S : Rule) (k : ℕ) → Within S k → (ls : List Limit) → Within (FieldsThen ls S) (11 * length ls + k)
fields_longest S k few [] t w = omega (arith, few t w)
fields_longest S k few (l ∷ ls) t (inl w) =
    let rest = fields_longest S k few ls in
    let first = entry_longest l.rule (ender ls) in
    omega (arith, then_longest (Entry l.rule (ender ls)) (FieldsThen ls S) 11 (11 * length ls + k) first rest t w)
fields_longest S k few (l ∷ ls) t (inr (q, w)) =
    omega (arith, then_longest (Entry l.rule feed) S 11 k (entry_longest l.rule feed) few t w)

abbrev line_longest : Line → ℕ
line_longest l = length l.tag + 11 * length l.limits

line_longest_lem : (S : Rule) (k : ℕ) → Within S k → (l : Line) → Within (LineThen l S) (line_longest l + k)
line_longest_lem S k few l t w =
    let both : length t ≡ length w.one + length w.two =
    ap length w.joined ∙ length-append w.one w.two in
    let tag : length w.one ≡ length l.tag = ap length w.by_one in
    omega (arith, both, tag, fields_longest S k few l.limits w.two w.by_two)

unfoldable pub kinds_longest : List Line → ℕ
kinds_longest [] = 0
kinds_longest (l ∷ ls) = max (line_longest l) (kinds_longest ls)

one_longest : (S : Rule) (k : ℕ) → Within S k → (ls : List Line) → Within (OneThen ls S) (kinds_longest ls + k)
unfolding kinds_longest
one_longest S k few [] t w = absurd w
one_longest S k few (l ∷ ls) t (inl w) = omega (arith, line_longest_lem S k few l t w)
one_longest S k few (l ∷ ls) t (inr w) = omega (arith, one_longest S k few ls t w)

lines_longest : (S : Rule) (k : ℕ) → Within S k → (kinds : List Line) (n : ℕ)
    → Within (LinesThen kinds n S) (n * kinds_longest kinds + k)
lines_longest S k few kinds zero t w = omega (arith, few t w)
lines_longest S k few kinds (suc n) t w =
    let rest = lines_longest S k few kinds n in
    let h = one_longest (LinesThen kinds n S) (n * kinds_longest kinds + k) rest kinds t w in
    omega (arith, h, suc-mul n (kinds_longest kinds))

-- ---- a whole text

unfoldable pub parts_longest : List Part → ℕ
parts_longest [] = 0
parts_longest (p ∷ ps) = p.most * kinds_longest p.kinds + parts_longest ps

pub parts_longest_lem : (ps : List Part) (t : List ℕ) → PartsRule ps t → length t ≤ parts_longest ps
unfolding parts_longest
parts_longest_lem [] t w = rw w (omega arith)
parts_longest_lem (p ∷ ps) t w =
    let n : ℕ = kinds_longest p.kinds in
    let h = lines_longest (PartsRule ps) (parts_longest ps) (parts_longest_lem ps) p.kinds w.count t w.by in
    let most : w.count * n ≤ p.most * n = mul-le-mul w.few (omega arith) in
    omega (arith, h, most)
