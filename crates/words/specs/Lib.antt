-- to believe
pub mod Refusals
pub mod Told
-- steps of the code, which no promise of an exported call names
pub mod Tables
pub mod Entries
-- proved of them
pub mod Laws
