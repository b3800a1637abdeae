-- Which texts there are by the line rules, and where a text that is none goes wrong.
pub mod Rules  -- a text by the line rules, form alone
pub mod Faulty  -- the place where a text goes wrong
pub mod Reached  -- up to a place: what ended before it is within its limits
