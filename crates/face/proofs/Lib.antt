-- The laws of the C face.
pub mod Outcomes  -- two outcomes that a call's promise allows are equal
pub mod Accepted  -- C reads refusal 0 exactly where a call was accepted
