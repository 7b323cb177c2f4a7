pub mod JoinedTexts
pub mod StateTexts
pub mod StatusSets
pub mod Examples
