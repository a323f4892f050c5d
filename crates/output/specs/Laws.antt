pub mod Listing
pub mod Converted
