pub mod Prefixes
pub mod Ordered
