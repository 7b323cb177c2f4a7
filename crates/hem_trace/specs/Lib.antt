pub mod History
pub mod Tags
pub mod Blocks
pub mod Order
pub mod Templates
pub mod Laws
