pub mod Answers
pub mod Heads
pub mod HeadLaws
pub mod Keys
pub mod Requests
pub mod Openings
pub mod Writers
