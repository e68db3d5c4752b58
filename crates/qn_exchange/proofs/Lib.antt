mod Answering
mod Asking
pub mod Lines
