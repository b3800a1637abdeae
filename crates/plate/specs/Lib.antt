-- What the program's own functions promise of its input.
pub mod Input  -- how many bytes a reading gave
