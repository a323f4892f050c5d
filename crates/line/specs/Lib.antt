-- steps of the code, which no promise of an exported call names
pub mod Lines
-- proved, for the layers above
pub mod Laws
