pub mod Signs
pub mod Gates
pub mod Levels
pub mod Factors
