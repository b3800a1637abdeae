-- What the plate program prints.
pub mod Input  -- where the sheet in an input ends
pub mod Printed  -- what is printed of an input
