pub mod Discipline
pub mod Refused
pub mod Findings
