pub mod Rows
pub mod Acts
