-- What the code that reads leaves behind, from a line to a whole text.
pub mod Steps  -- a line after what was read, and the lines of a sheet up to one of them
pub mod Rows  -- a row, and the columns of rows
pub mod Filled  -- what was found, in a lent list
