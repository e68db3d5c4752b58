pub mod ApplySteps
pub mod Clocks
pub mod EventSpelling
pub mod Following
mod LeaseSpelling
pub mod Lists
pub mod Meeting
mod PassLength
pub mod PassWords
pub mod Quiet
pub mod Refusals
pub mod RuleTests
pub mod StepForms
mod WordsOfLines
