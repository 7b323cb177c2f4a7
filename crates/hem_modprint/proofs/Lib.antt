pub mod Words
pub mod Leads
pub mod Known
pub mod TestRuns
pub mod ClauseRuns
pub mod ActionRuns
pub mod RuleRuns
pub mod Back
mod Numbered
