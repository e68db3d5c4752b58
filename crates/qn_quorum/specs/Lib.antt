pub mod Agreed
pub mod Counting
pub mod Deadline
pub mod Quorum
