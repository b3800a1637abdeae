-- The laws of what is printed.
pub mod Laying  -- what is printed, laid piece by piece
