pub mod Lines
pub mod Wishes
pub mod Texts
