-- steps of the code, which no promise of an exported call names: reading
pub mod Columns
-- and printing
pub mod Fields
