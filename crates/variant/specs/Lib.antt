-- What a variant of a parent hull is, and what a parent and a variant say together.
pub mod VariantText  -- a variant's text as a form of its own
pub mod Joined  -- the joined text, by lines
pub mod Answered  -- what reading them answers, and which text
pub mod Given  -- one text or two: what they say, and which of them is at fault
pub mod JoinedRows  -- the joined sheet, by rows
