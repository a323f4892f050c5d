-- to believe, in reading order
pub mod Text
pub mod Sheet
pub mod Causes
pub mod Sheets
pub mod Meaning
pub mod Typed
pub mod Texts
pub mod Source
pub mod Pick
pub mod Rule
pub mod Jobs
pub mod Demands
pub mod Words
pub mod Filling
pub mod Writing
pub mod Program
-- compute what Sheets, Texts and Writing say (`sheet_read`, `text_read` and `tables_read` in Claims); nothing above rests on them
pub mod Reading
pub mod Parsing
pub mod Checking
