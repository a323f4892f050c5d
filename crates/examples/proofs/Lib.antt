-- the tables of specs/ hold
pub mod Examples
