pub mod Files
pub mod Voices
pub mod Networks
pub mod Verdicts
pub mod Texts
