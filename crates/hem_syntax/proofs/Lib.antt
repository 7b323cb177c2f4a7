pub mod DeclaredNames
pub mod Tables
pub mod Guesses
