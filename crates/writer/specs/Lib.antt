-- to believe
pub mod Returned
-- steps of the code, which no promise of an exported call names
pub mod Entries
pub mod Tested
pub mod Lines
-- proved of them
pub mod Laws
