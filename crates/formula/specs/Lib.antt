-- steps of the code, which no promise of an exported call names
pub mod Formulas
-- proved, for the proofs of the code
pub mod Laws
