pub mod ModulesText
pub mod ReadsBack
pub mod PlayText
