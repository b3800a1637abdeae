-- What a reading of the program's input came to. No contract can say which bytes are read: only how many.
use Rattle.std.specs.Prelude.{ℕ, Result, Ok, Err}

-- how many bytes were read; a failure gives none
abbrev pub bytes_of : {E : Type 0} → Result ℕ E → ℕ
bytes_of (Ok n) = n
bytes_of (Err e) = 0
