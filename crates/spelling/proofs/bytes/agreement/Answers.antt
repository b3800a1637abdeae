-- `agreement` meets its contract.
use Rattle.std.proofs.Common.{◌≡◌, ℕ, List, [], ◌∷◌, Bool, rules, refl, ◌∙◌}
use Rattle.std.specs.Prelude.{zip, take_while, length}
use Rattle.std.specs.List.{prefix_len}
use Rattle.std.proofs.lemmas.Iterator.{YieldsList-from_slice, YieldsList-from_zip}
use Rattle.std.proofs.lemmas.Iterator.Consumers.{count_from_yields_List}
use Rattle.std.proofs.lemmas.Iterator.Search.{YieldsList-from_take_while}
use Rattle.std.proofs.lemmas.List.Folds.{length-prefix_len}
use borrow.Author.Tests.{tests}
use lib.Dec.{eqb}
use native.Mathlib.Numerals.{one-add}
use Rattle.ground.proofs.Booleans.{by_test}
use Rattle.text.specs.Field.{agreed}
use Rattle.spelling.proofs.bytes.agreement.Goals as goal

-- whether a byte of the tag and one of the text agree
abbrev tied : ℕ × ℕ → Bool
tied p = eqb p.1 p.0

tied_agreed : (s t : List ℕ) → prefix_len tied (zip s t) ≡ agreed s t
unfolding agreed
tied_agreed [] t = refl
tied_agreed (a ∷ s) [] = refl
tied_agreed (a ∷ s) (b ∷ t) =
    by_test (eqb b a) (λ e. rw (e, agreed, one-add (prefix_len tied (zip s t)), tied_agreed s t))
    (λ e. rw (e, agreed))

pub returns : goal.returns
returns c =
    let s = c.args.tag.now in
    let t = c.args.text.now in
    let e : c.count.result ≡ length (take_while tied (zip s t)) =
    count_from_yields_List c.take_while.result c.count.result c.count.ensures.ran
    (YieldsList-from_take_while _ tied (YieldsList-from_zip (YieldsList-from_slice s cc) (YieldsList-from_slice t cc))
    c.take_while.ensures.closure c.take_while.ensures.done (λ x b q k. search (rules, tests))) in
    e ∙ length-prefix_len tied (zip s t) ∙ tied_agreed s t
