pub mod Halves
pub mod Premises
pub mod Tie
