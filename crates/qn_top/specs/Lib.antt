pub mod Commands
pub mod Does
pub mod Options
pub mod ReplayEnds
pub mod Runs
pub mod Traces
pub mod Words
pub mod Names
