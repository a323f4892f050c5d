-- what is claimed of the definitions
pub mod Claims
-- proved of them
pub mod Laws
