-- What a sheet and engine rows are, in the order of 01.
pub mod Lines  -- the table of lines, with the limits of each number
pub mod Places  -- where each number stands among a sheet's words
pub mod Sheet  -- a sheet's limits, and whether it is within them
pub mod SheetText  -- a sheet's text as a form: reading it, and the one text of a sheet
pub mod Renewed  -- a text of before, with counts written in
pub mod EngineText  -- engine rows as a form, and their two columns
pub mod TextCalls  -- the calls on texts: what they answer, and what they leave
