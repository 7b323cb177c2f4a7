pub mod Taken
pub mod Once
pub mod Examples
