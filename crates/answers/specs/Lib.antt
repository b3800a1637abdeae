-- What a call may answer, whatever it is about.
pub mod Refusals  -- 01's refusals, name and number
pub mod Answer  -- what a call may answer, by 01's numbers
pub mod Values  -- the numbers that each case of an answer stands for
pub mod Settled  -- what a promise says
