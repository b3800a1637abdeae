-- `find_field` meets its contract.
use Rattle.std.proofs.Common.{◌≡◌, ℕ, List, [], ◌∷◌, Bool, rules, refl, ap, arith, take, ◌||◌}
use Rattle.std.specs.Prelude.{length}
use Rattle.std.specs.List.{position_or_len, position}
use Rattle.std.specs.Option.{unwrap_or}
use Rattle.std.proofs.lemmas.Grind.{common_steps}
use Rattle.std.proofs.lemmas.Iterator.{YieldsList-from_slice}
use Rattle.std.proofs.lemmas.Iterator.Search.{position_from_yields_List}
use Rattle.std.proofs.lemmas.List.Sums.{prefix_len-le-length}
use borrow.Author.Tests.{tests}
use lib.Dec.{eqb}
use native.Mathlib.Numerals.{one-add}
use Rattle.ground.proofs.Booleans.{by_test}
use Rattle.text.specs.Quoted.{tab, feed}
use Rattle.text.specs.Field.{field_of}
use Rattle.text.proofs.Field.{field_stop, field_more}
use Rattle.spelling.proofs.bytes.find_field.Goals as goal

-- whether b ends a field
abbrev ends : ℕ → Bool
ends b = eqb b tab || eqb b feed

field_before : (t : List ℕ) → take (position_or_len ends t) t ≡ field_of t
unfolding field_of
field_before [] = refl
field_before (b ∷ t) =
    by_test (ends b) (λ e. rw (e, field_stop b t e))
    (λ e. rw (e, field_more b t e, one-add (position_or_len ends t)) (ap (λ (l : List ℕ). b ∷ l) (field_before t)))

at_end : (t : List ℕ) → unwrap_or (position ends t) (length t) ≡ position_or_len ends t
at_end t = grind (arith, common_steps, prefix_len-le-length)

pub returns : goal.returns
returns c =
    let t = c.args.text.now in
    let e : c.position-end.result ≡ position ends t =
    position_from_yields_List ends _ _ _ c.position-end.ensures.ran (YieldsList-from_slice t c.iter.ensures.rest)
    (λ x b q k. search (rules, tests)) in
    rw (c.unwrap_or.ensures, e, at_end t) (field_before t)
