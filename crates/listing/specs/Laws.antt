-- what is proved of the definitions
pub mod Rows
pub mod Listing
