-- What the code that writes a sheet's text does line by line.
pub mod Pieces  -- a line that is due, and a text laid up to one of its pieces
