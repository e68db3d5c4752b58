pub mod Live
pub mod Node
pub mod Outputs
pub mod Resource
pub mod Rest
pub mod Stage
pub mod Tally
