pub mod Fronts
pub mod Documents
pub mod SetUp
pub mod Playing
