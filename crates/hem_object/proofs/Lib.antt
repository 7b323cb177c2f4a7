pub mod Assigns
pub mod Targets
pub mod Entries
pub mod Fields
