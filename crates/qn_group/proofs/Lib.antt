pub mod Stages
pub mod Stepping
pub mod Runs
pub mod Kept
