-- A lent buffer, as a list of numbers, after a call that wrote to its start.
use Rattle.std.specs.Prelude.{ℕ, List, ◌++◌, length, drop}

-- a list that starts with xs, and goes on as it was
abbrev pub put_first : List ℕ → List ℕ → List ℕ
put_first xs before = xs ++ drop (length xs) before
