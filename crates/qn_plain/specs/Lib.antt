pub mod Lack
pub mod Life
pub mod Outputs
pub mod Past
pub mod Peer
pub mod Sought
pub mod Tally
