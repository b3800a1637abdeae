-- Laws that the proofs of the functions here go by.
pub mod Heard  -- what a whole text says, by how its reading ended
pub mod Found  -- what was found, piece after piece
pub mod Row  -- a line that was read, and a row
pub mod RowsLoop  -- rows of a part, one after another
pub mod FitsLoop  -- FIT lines
pub mod FitsTurn  -- one turn of that loop
pub mod Columns  -- engine rows up to the end of their text, and their columns
pub mod EnginesLoop  -- engine rows
pub mod EnginesTurn  -- one turn of that loop
pub mod EnginesCall  -- what a whole text of engine rows says
pub mod NextLine  -- one line of a sheet after what was read
pub mod LineByLine  -- the lines HULL to SEAT
pub mod Rest  -- what follows them
pub mod SheetCall  -- a whole sheet, and what its text says
