mod Device
mod FasterRows
mod MetRows
mod MetRun
pub mod ArbiterSteps
pub mod Going
pub mod Leasing
pub mod NodeSteps
pub mod Pollers
pub mod Projection
pub mod Simulating
pub mod Spelling
pub mod Stepping
