-- The laws that every room uses.
pub mod Booleans  -- conjunctions and choices, and proofs by cases
pub mod Results  -- a result whose error was mapped
pub mod Stores  -- runs of stores into a list, whole or in parts
