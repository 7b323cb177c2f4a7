pub mod FaultsInTurn
pub mod OneAfterAnother
pub mod ReadOnce
pub mod SetUpOnce
pub mod PlayOnce
