-- to believe
pub mod Streams
