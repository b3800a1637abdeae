-- The laws of the check.
pub mod Parts  -- words in two parts
pub mod Runs  -- places of alike limits, and the stations
pub mod Hull  -- the HULL number and the words after it
pub mod Fits  -- the fitting lines
pub mod Weighed  -- the weight, for callers
