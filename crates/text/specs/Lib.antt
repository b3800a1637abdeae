-- What the text layer means, in the order in which 01 builds it up.
pub mod Quoted  -- a text in quotes, as its bytes
pub mod Field  -- what a field is, and how a text begins
pub mod Number  -- how a number is read and written
pub mod Limit  -- what a number may be
pub mod Read  -- how a reading ended
pub mod Line  -- how a line is read and written
pub mod Place  -- line and byte of a place in a text
