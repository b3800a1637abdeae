-- `weighed_ok` meets its contract.
use mathlib.Core.Path.{◌≡◌, refl, ◌∙◌}
use Rattle.capacity.proofs.Scale.{told_held}
use Rattle.judging.proofs.weighed_ok.Goals as goal

pub returns : goal.returns
returns g c = c.eq.ensures ∙ told_held _ c.weigh.ensures _ ∙ rw (c.weight.ensures, c.sheet.ensures.value) refl
