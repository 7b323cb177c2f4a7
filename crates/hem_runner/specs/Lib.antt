pub mod Turned
pub mod Pairs
pub mod Settles
pub mod Rounds
pub mod Runs
pub mod Tally
