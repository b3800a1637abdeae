-- Forms of which there are texts: every part can be, from its least to its most lines, and has some kind of line where
-- one must stand. A closed form is sayable by `refl`.
use mathlib.Core.Bool.{Bool, true, ◌&&◌, ◌||◌}
use mathlib.Core.List.{List, [], ◌∷◌}
use lib.Dec.{leb, ltb}
use lib.ListN.{length}
use Rattle.form.specs.Parts.{Part}

unfoldable pub can_be : Part → Bool
can_be p = leb p.least p.most && (leb p.least 0 || ltb 0 (length p.kinds))

unfoldable pub sayable : List Part → Bool
sayable [] = true
sayable (p ∷ ps) = can_be p && sayable ps
