-- `alike_hold` meets its contract.
use Rattle.std.proofs.Common.{◌≡◌, ◌∙◌, sym, ap, ℕ, List, [], ◌∷◌, rules, arith, max}
use Rattle.std.specs.List.{fold}
use Rattle.std.proofs.lemmas.Iterator.{YieldsList-from_slice}
use Rattle.std.proofs.lemmas.Iterator.Consumers.{fold_from_yields_List}
use borrow.Author.Tests.{tests}
use mathlib.Core.List.{foldr}
use lib.Dec.{leb}
use Rattle.text.proofs.Alike.{alike_holds}
use Rattle.spelling.proofs.limits.alike_hold.Goals as goal

-- from the first on or from the last on, the greatest is the same
either_way : (top : ℕ) (ns : List ℕ) → fold max top ns ≡ max top (foldr max 0 ns)
either_way top [] = omega arith
either_way top (n ∷ ns) = omega (arith, either_way (max top n) ns)

pub returns : goal.returns
returns c =
    let l = c.args.l in
    let ns = c.args.numbers.now in
    let e : c.fold.result ≡ fold max 0 ns =
    fold_from_yields_List _ max 0 _ c.fold.ensures.ran (YieldsList-from_slice ns c.iter.ensures.rest)
    (λ a x b q k. search (rules, tests)) in
    let greatest : c.fold.result ≡ foldr max 0 ns = omega (arith, e, either_way 0 ns) in
    ap (λ (n : ℕ). leb n l.high) greatest ∙ sym (alike_holds l 0 ns c.requires)
