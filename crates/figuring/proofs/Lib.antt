-- Laws of the plates as the code works them.
pub mod Positive  -- a number that there may be none of, told apart, and the greater of two
pub mod RowFound  -- the row that reaches, and the engine's weight
pub mod Seats  -- persons, where there are any
pub mod Found  -- a value that may be none, found or refused
pub mod Marked  -- the answers, by what the code has found
