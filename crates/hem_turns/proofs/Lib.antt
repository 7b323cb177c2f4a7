pub mod Chosen
pub mod TakenThere
pub mod Ready
pub mod Along
