pub mod Tables
pub mod FirstFault
pub mod Totals
pub mod Fits
pub mod Generated
pub mod MadeFits
pub mod Drafts
