-- Laws that the proofs of the functions here go by.
pub mod Added  -- a line added to a page
pub mod LineByLine  -- the lines HULL to SEAT
pub mod Fits  -- the fittings
pub mod WriteCall  -- a whole sheet, and the call
