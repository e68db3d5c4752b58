pub mod Answers
pub mod Events
pub mod Journal
pub mod Laws
pub mod Observing
