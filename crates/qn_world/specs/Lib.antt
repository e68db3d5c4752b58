pub mod Lawful
pub mod Memory
pub mod Pending
pub mod Seen
pub mod Showing
pub mod Standing
pub mod Stepping
pub mod Whole
