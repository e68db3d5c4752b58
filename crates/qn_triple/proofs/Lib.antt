mod LineForms
pub mod FirstWorld
pub mod DiskSteps
pub mod EventSteps
pub mod LineRows
pub mod RuleSteps
