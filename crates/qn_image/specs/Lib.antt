pub mod Causes
pub mod Joining
pub mod Migration
pub mod Plans
pub mod Versions
pub mod Writes
