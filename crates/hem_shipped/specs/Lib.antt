pub mod Texts
pub mod MsiInclusive
pub mod MesiInclusive
pub mod MsiNoninclusive
pub mod MesiNoninclusive
