pub mod Leads
pub mod WorkRuns
pub mod WorkBack
pub mod Steps
pub mod TreeShape
pub mod TreeRuns
pub mod TreeBack
