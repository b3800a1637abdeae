-- The register's memory.
pub mod Layout  -- where things stand
pub mod Formed  -- when it is well formed
pub mod Updates  -- how the calls change it
pub mod Asked  -- what the code asks before it reads or changes a slot
