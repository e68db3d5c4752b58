pub mod LineNames
pub mod Words
pub mod Lines
pub mod Reading
pub mod Replies
pub mod Steps
