mod Branches
pub mod KindWords
mod LastTexts
mod OptionWords
mod PlayedEnds
mod Replayed
mod Shown
mod Stated
mod StatusLists
mod Written
