pub mod LineParts
pub mod Workers
pub mod Rounds
pub mod Edges
pub mod Settling
pub mod Hindered
