-- What the checks that the calls share answer.
pub mod Checked  -- a refusal by its number
