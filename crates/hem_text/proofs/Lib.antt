mod Grows
pub mod Reversed
pub mod Ways
pub mod Runs
pub mod Cut
pub mod FirstFaults
pub mod Columns
pub mod OneLook
pub mod Short
