pub mod Kept
pub mod ByPlace
pub mod PartAt
pub mod Edges
pub mod Tied
pub mod Merging
pub mod Few
pub mod Learning
