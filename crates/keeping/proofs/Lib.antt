-- Laws that the proofs of the functions here go by.
pub mod Writes  -- a slot's words written one after the other
