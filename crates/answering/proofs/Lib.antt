-- Laws that the proofs of the functions here go by.
pub mod Settling  -- an answer and a memory by the refusal that was found
pub mod Sheets  -- the sheets that the calls read, and a text's sheet
