pub mod Kept
pub mod TreesOfTokens
pub mod Nearest
pub mod Paths
pub mod Lawful
pub mod Refused
pub mod Building
pub mod Early
