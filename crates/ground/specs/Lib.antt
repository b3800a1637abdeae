-- Words that definitions of every room share.
pub mod Lists  -- a list laid at the start of another
