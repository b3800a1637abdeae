-- What the inner functions of the plates promise.
pub mod Positive  -- whole numbers of which there may be none
