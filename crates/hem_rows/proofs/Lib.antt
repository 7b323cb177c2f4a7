pub mod Choices
pub mod Bits
pub mod Rows
pub mod Possible
pub mod Locking
pub mod Sending
pub mod Acts
pub mod Templated
