pub mod Links
pub mod Faults
pub mod Arbiters
pub mod Devices
pub mod Meaning
pub mod Names
pub mod Networks
pub mod Standings
