-- What the inner functions of the check promise.
pub mod Part  -- words from one place up to another
