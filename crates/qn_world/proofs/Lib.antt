pub mod AnswerSteps
pub mod FirstWorld
pub mod DiskSteps
pub mod EventSteps
pub mod Looks
pub mod RuleSteps
pub mod WorldSteps
