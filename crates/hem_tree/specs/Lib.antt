pub mod Limits
pub mod Tree
pub mod Grammar
pub mod Raw
pub mod TreeReading
pub mod Building
pub mod Objects
