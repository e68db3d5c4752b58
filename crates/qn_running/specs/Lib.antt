pub mod Commands
pub mod NodeTexts
pub mod Polls
