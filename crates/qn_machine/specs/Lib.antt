pub mod Headers
pub mod JournalLines
pub mod Refusals
pub mod Streams
pub mod Watchdogs
pub mod StandingTexts
