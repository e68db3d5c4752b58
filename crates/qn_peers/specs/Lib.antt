pub mod Peers
pub mod Admission
pub mod Arrivals
pub mod Guards
pub mod Numbers
pub mod Sending
