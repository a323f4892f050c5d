-- what is proved of the definitions
pub mod Rooms
pub mod Puts
pub mod Sheets
pub mod Tests
pub mod Told
pub mod Held
pub mod Literals
pub mod Results
