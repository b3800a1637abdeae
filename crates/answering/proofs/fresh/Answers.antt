-- `fresh` meets its contract.
use Rattle.std.proofs.Common.{ℕ, refl, ap, ◌∙◌, replicate}
use borrow.Author.Tests.{eq-eqb}
use Rattle.memory.specs.Updates.{fresh_words}
use Rattle.answering.proofs.fresh.Goals as goal

pub returns : goal.returns
unfolding fresh_words
returns c =
    let sized = c.if-mem-ne-REGISTER_WORDS.false in
    record {
      answered = rw (eq-eqb _ _ sized) refl;
      kept = rw (eq-eqb _ _ sized) (c.fill.ensures.after (λ y e. e) ∙ ap (λ (n : ℕ). replicate n 0) sized);
    }
