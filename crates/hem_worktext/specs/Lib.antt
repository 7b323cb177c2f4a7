pub mod TreeText
pub mod WorkText
pub mod ReadsBack
