pub mod Texts
pub mod BlocksText
pub mod LocalText
pub mod StateText
pub mod Places
pub mod AcceptedText
pub mod RefusalText
pub mod JournalText
