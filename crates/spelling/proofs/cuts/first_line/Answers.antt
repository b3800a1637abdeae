-- `first_line` meets its contract.
use Rattle.std.proofs.Common.{◌≡◌, ℕ, List, [], ◌∷◌, Bool, None, Some}
use Rattle.std.proofs.Common.{rules, sym, ◌∙◌, ap, arith, take, ◌+◌, ◌≤◌, length}
use Rattle.std.specs.List.{position_or_len, position}
use Rattle.std.proofs.lemmas.Grind.{common_steps}
use Rattle.std.proofs.lemmas.Iterator.{YieldsList-from_slice}
use Rattle.std.proofs.lemmas.Iterator.Search.{position_from_yields_List}
use borrow.Author.Tests.{tests, ne_eqb}
use lib.Dec.{eqb}
use lib.Seq.{take_all}
use native.Mathlib.Nat.{suc-add}
use native.Mathlib.Numerals.{one-add}
use Rattle.ground.proofs.Booleans.{by_equal}
use Rattle.text.specs.Quoted.{feed}
use Rattle.text.specs.Place.{first_line}
use Rattle.text.proofs.FirstLine.{first_none, first_feed, first_other}
use Rattle.spelling.proofs.cuts.first_line.Goals as goal
use Rattle.spelling.proofs.cuts.first_line.Goals.{After-position}

abbrev is_feed : ℕ → Bool
is_feed b = eqb b feed

through : (t : List ℕ) → take (position_or_len is_feed t + 1) t ≡ first_line t
through [] = rw first_none
through (b ∷ t) =
    by_equal b feed (λ e. rw (e, first_feed t))
    (λ n.
    rw (first_other b t n, ne_eqb b feed n, one-add (position_or_len is_feed t), suc-add (position_or_len is_feed t) 1)
    (ap (λ (l : List ℕ). b ∷ l) (through t)))

at_some : (t : List ℕ) (end : ℕ) → position is_feed t ≡ Some end → position_or_len is_feed t ≡ end
at_some t end e = grind (arith, common_steps)

at_none : (t : List ℕ) → position is_feed t ≡ None → length t ≤ position_or_len is_feed t
at_none t e = grind (arith, common_steps)

found : (c : After-position) → c.position.result ≡ position is_feed c.args.text.now
found c =
    position_from_yields_List is_feed _ _ _ c.position.ensures.ran (YieldsList-from_slice _ c.iter.ensures.rest)
    (λ x b q k. search (rules, tests))

pub returns-in-Some : goal.returns-in-Some
returns-in-Some c =
    let t = c.args.text.now in
    let e = at_some t c.in-Some.end (sym (found (goal.at.returns-in-Some c).After-position) ∙ c.in-Some.is) in
    rw (← e) (through t)

pub returns-in-None : goal.returns-in-None
returns-in-None c =
    let t = c.args.text.now in
    let n = at_none t (sym (found (goal.at.returns-in-None c).After-position) ∙ c.in-None.is) in
    sym (take_all _ t (omega arith)) ∙ through t
