-- to believe
pub mod Returned
-- steps of the code, which no promise of an exported call names
pub mod Steps
-- proved
pub mod Laws
