-- steps of the code, which no promise of an exported call names
pub mod Counts
pub mod Tests
-- proved, for the layers above
pub mod Laws
