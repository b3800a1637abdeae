-- A text in quotes, as its bytes, so that definitions can show a line as 01 prints it.
use Rattle.std.specs.Prelude.{ℕ, List, [], ◌∷◌}
use Prim.Native.Char.{code}
use Prim.Native.String as Str
use Prim.Native.String.{String}

-- the bytes of a text in ASCII
abbrev pub bytes : String → List ℕ
bytes Str.[] = []
bytes (Str.◌∷◌ c s) = code c ∷ bytes s

abbrev pub tab : ℕ
tab = 9

abbrev pub feed : ℕ
feed = 10

abbrev pub dash : ℕ
dash = 45

abbrev pub digit0 : ℕ
digit0 = 48

abbrev pub digit9 : ℕ
digit9 = 57
