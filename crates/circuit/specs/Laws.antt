-- what is proved of the definitions
pub mod Gates
pub mod Points
pub mod Patterns
pub mod Wishes
