pub mod Filled
pub mod Words
pub mod Lines
pub mod Tests
pub mod Passed
pub mod Printed
