pub mod Sets
pub mod Names
pub mod Lends
pub mod Streams
pub mod Words
