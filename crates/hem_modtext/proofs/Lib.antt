pub mod Keys
pub mod Lists
pub mod Small
pub mod Kept
