-- Laws that the proofs of the functions here go by.
pub mod Examples  -- worked inputs, computed
pub mod Input  -- where the sheet ends, byte by byte
pub mod PrintCall  -- what the call that prints answers and leaves
pub mod Printed  -- what is printed, path by path
pub mod Most  -- 60 bytes at most
