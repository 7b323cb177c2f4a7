pub mod First
pub mod FirstTaken
pub mod Waiting
pub mod Senders
pub mod SendersOnce
