pub mod Phases
pub mod Acts
pub mod Places
pub mod Steps
pub mod Told
