pub mod Candidate
pub mod Laws
pub mod Numbers
