pub mod Arbiter
pub mod Poller
pub mod Polls
pub mod Reading
pub mod Times
