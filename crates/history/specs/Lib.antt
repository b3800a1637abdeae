-- What a run of the register's calls is, and what demand 3 says of it.
pub mod Replies  -- what a call replies, and the memory after it
pub mod Runs  -- a run of calls from fresh, and its history
pub mod History  -- blocks, and the serial list
pub mod Told  -- what a history tells by itself: drafts, saves, sheets
pub mod Weights  -- and weights
pub mod Demand  -- demand 3
pub mod InOrder  -- the same oldest first
