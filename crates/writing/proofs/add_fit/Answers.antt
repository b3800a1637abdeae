-- `add_fit` meets its contract.
use Rattle.std.proofs.Common.{◌∙◌, ◌≡◌, ◌++◌, List, ℕ, sym, ap, length, arith, append-nil}
use Rattle.writing.proofs.Fits.{fit_none, fit_some}
use Rattle.writing.proofs.add_fit.Goals as goal

pub add-requires-clause-room : goal.add-requires-clause-room
add-requires-clause-room c =
    let text = fit_some c.args.line c.args.weight c.args.count (λ (e : c.args.weight ≡ 0). omega arith) in
    rw c.ranging.ensures (omega (arith, ap length text, c.requires))

pub returns-then-weight-gt0 : goal.returns-then-weight-gt0
returns-then-weight-gt0 c =
    let text = fit_some c.args.line c.args.weight c.args.count (λ (e : c.args.weight ≡ 0). omega arith) in
    rw c.ranging.ensures at c.add.ensures ∙ ap (λ (x : List ℕ). c.args.page.now ++ x) (sym text)

pub returns-else-weight-gt0 : goal.returns-else-weight-gt0
returns-else-weight-gt0 c =
    rw (fit_none c.args.line c.args.weight c.args.count (omega arith)) (sym (append-nil c.args.page.now))
