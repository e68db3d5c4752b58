pub mod Asked
pub mod Choices
pub mod Outside
pub mod Steps
