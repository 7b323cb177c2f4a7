pub mod Protocol
pub mod Lawful
pub mod Names
