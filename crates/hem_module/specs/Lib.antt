pub mod Module
pub mod Step
pub mod Places
pub mod Modules
pub mod Lawful
pub mod States
pub mod Plans
pub mod Turns
