-- The laws of what the program prints.
pub mod Counted  -- with room for the longest there is always a count, of the bytes that are printed
