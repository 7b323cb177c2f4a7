pub mod Crew
pub mod Knowing
pub mod Rounds
pub mod Held
