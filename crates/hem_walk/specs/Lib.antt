pub mod Firsts
pub mod Marks
pub mod Near
pub mod Walk
pub mod Working
