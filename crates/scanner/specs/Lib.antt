-- steps of the code, which no promise of an exported call names
pub mod Look
pub mod Tokens
-- proved, for the proofs of the code
pub mod Laws
