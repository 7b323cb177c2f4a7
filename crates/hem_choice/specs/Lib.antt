pub mod Choices
pub mod Firsts
