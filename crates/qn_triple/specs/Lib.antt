pub mod Lawful
pub mod Memory
pub mod Standing
pub mod Stepping
pub mod TripleReading
pub mod Whole
