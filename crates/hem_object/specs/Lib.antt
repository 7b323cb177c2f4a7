pub mod Local
pub mod Guard
pub mod Start
pub mod Changes
pub mod Targets
