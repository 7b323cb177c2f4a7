pub mod Limits
pub mod Grammar
pub mod Draft
pub mod Sound
pub mod ModulesReading
pub mod Feeding
