-- `is_formed` meets its contract.
use Rattle.std.proofs.Common.{◌≡◌, ◌∙◌, ◌≤◌, ℕ, List, ◌&&◌, length}
use Rattle.std.proofs.Math.Bool.{and_comm}
use borrow.Author.Tests.{eq-eqb, le-leb}
use Rattle.memory.specs.Layout.{most_hulls, desks, register_words, hull_count}
use Rattle.memory.specs.Formed.{each, hull_ok, draft_ok, formed}
use Rattle.judging.proofs.is_formed.Goals as goal

-- of a memory of the right size, lent on as an array, with n hulls that it has room for
sized : {m o : List ℕ} {n : ℕ} → length m ≡ register_words → o ≡ m → n ≡ hull_count o → n ≤ most_hulls
    → (each desks (draft_ok o) && each n (hull_ok o)) ≡ formed m
unfolding formed
sized {m} l e q f =
    rw (q, e, eq-eqb _ _ l, le-leb (hull_count m) most_hulls (rw (q, e) at f))
    (and_comm (each desks (draft_ok m)) (each (hull_count m) (hull_ok m)))

pub returns-then-drafts_ok : goal.returns-then-drafts_ok
returns-then-drafts_ok c =
    let lent = c.in-Some.ensures.cases in
    c.hulls_ok.ensures
    ∙ rw (← c.drafts_ok.ensures, c.if-drafts_ok.true) at
    (sized lent.long lent.same c.hull_count-hulls.ensures c.if-hulls-gt-MOST_HULLS.false)

pub returns-else-drafts_ok : goal.returns-else-drafts_ok
returns-else-drafts_ok c =
    let lent = c.in-Some.ensures.cases in
    c.if-drafts_ok.false
    ∙ rw (← c.drafts_ok.ensures, c.if-drafts_ok.false) at
    (sized lent.long lent.same c.hull_count-hulls.ensures c.if-hulls-gt-MOST_HULLS.false)
