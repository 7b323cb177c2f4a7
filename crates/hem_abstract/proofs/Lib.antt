pub mod Exact
pub mod AfterExact
pub mod StableNever
pub mod OneRule
pub mod UplockUnseen
pub mod DownwardFrames
pub mod TemplateForms
pub mod UpwardMoves
pub mod PartnersKeep
mod Split
mod BitSets
mod FieldLists
mod LeastState
mod Breaches
pub mod Turns
