-- steps of the code, which no promise of an exported call names
pub mod Lines
pub mod Wishes
pub mod Texts
-- proved, for the proofs of the code
pub mod Laws
